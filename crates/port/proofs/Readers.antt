-- What a reader (Reply) makes of a setup packet, by its bytes, is what the row says that they match; and what a Bulk-OUT packet comes to, with what a reader
-- makes of it.
-- Assumes nothing.
use Prim.Native.Nat.{ℕ, ◌-◌, ◌≤◌, ◌<◌, min}
use mathlib.Core.Path.{◌≡◌, refl, sym, ap, ◌∙◌}
use mathlib.Core.Bool.{true, false, true≢false}
use mathlib.Core.List.{List, [], ◌∷◌}
use mathlib.Core.Logic.{◌⊎◌, inl, inr, ⊎_elim}
use native.Mathlib.Omega.{arith}
use lib.ListN.{length}
use borrow.Author.Tests.{lt-ltb, le-ltb, eq-eqb, ne_eqb, eqb-true}
use Rattle.rules.specs.Answers.{number_of}
use Rattle.rules.specs.Choice.{◌=ᵇ◌, ◌and◌, pick}
use Rattle.rules.specs.When.{Not}
use Rattle.rules.proofs.Choice.{Each, pick_all, decide_all, at_true, at_false, neb_ne, neb_eq, and_both, and_left, and_right}
use Rattle.wire.specs.Header.{HEADER, read_header}
use Rattle.wire.specs.When.{at, two_at, four_at, Commands, Requests, Column, rows, Fits, Matches, Means}
use Rattle.wire.specs.declared.types.Header.TheVariants.{Request}
use Rattle.wire.specs.Header.{Read}
use Rattle.std.specs.Prelude.{Ok, Err}
use Rattle.wire.specs.declared.types.Endpoint.TheVariants.{Out, In, Interrupt}
use Rattle.wire.specs.declared.types.Row.{Row}
use Rattle.wire.specs.declared.types.Row.TheVariants.{InitiateAbortBulkOut, CheckAbortBulkOutStatus, InitiateAbortBulkIn, CheckAbortBulkInStatus}
use Rattle.wire.specs.declared.types.Row.TheVariants.{InitiateClear, CheckClearStatus, GetCapabilities}
use Rattle.wire.specs.declared.types.Row.TheVariants.{IndicatorPulse, ReadStatusByte, RenControl, GoToLocal, LocalLockout, ClearFeature, SetFeature, GetStatus}
use Rattle.wire.specs.declared.types.Setup.{Setup}
use Rattle.wire.specs.declared.types.Setup.TheVariants.{Configure, Asks}
use Rattle.wire.proofs.Lawful.{header_ways}
use Rattle.wire.proofs.When.{header_law}
use Rattle.port.specs.Parts.{STORE, on, is_open_out, out_of, in_of, packet_size, asked_in}
use Rattle.port.specs.Answer.{Answer}
use Rattle.port.specs.Out.{keep_of, halt_of, more_rules, more, out_of_turn, data_length, header_rules, header_says, out_rules, outcome, absorbed}
use Rattle.port.specs.Reply.{asked, Reader, unread, due_after, asked_by, requests_now, after_packet}
use Rattle.port.specs.Reply.{by_bytes, aborted, cleared, closed_by, broken as cut_off, after_setup}
use Rattle.port.specs.declared.types.BulkOut.{BulkOut}
use Rattle.port.specs.declared.types.State.{State}
use Rattle.port.specs.declared.types.Outcome.{Outcome}
use Rattle.port.specs.declared.types.Outcome.TheVariants.{Keep, Halt, Data, Accept}
use Rattle.port.proofs.Sending.{Asks as AsksFor}

-- ** a setup packet, read by its bytes, is the row that they match

-- by the row
abbrev pub by_row : Reader → Row → Answer → Reader
by_row r (InitiateAbortBulkOut tag) a = pick (at a.bytes 0 =ᵇ 1) (cut_off r) r
by_row r CheckAbortBulkOutStatus a = r
by_row r (InitiateAbortBulkIn tag) a = pick (at a.bytes 0 =ᵇ 1) (aborted r) r
by_row r CheckAbortBulkInStatus a = r
by_row r InitiateClear a = pick (at a.bytes 0 =ᵇ 1) (cleared r) r
by_row r CheckClearStatus a = r
by_row r GetCapabilities a = r
by_row r IndicatorPulse a = r
by_row r (ReadStatusByte tag) a = r
by_row r (RenControl ren) a = r
by_row r GoToLocal a = r
by_row r LocalLockout a = r
by_row r (ClearFeature Out) a = cut_off r
by_row r (ClearFeature In) a = closed_by r r.line
by_row r (ClearFeature Interrupt) a = r
by_row r (SetFeature Out) a = cut_off r
by_row r (SetFeature In) a = r
by_row r (SetFeature Interrupt) a = r
by_row r (GetStatus endpoint) a = r

abbrev pub by_setup : Reader → Setup → Answer → Reader
by_setup r (Configure value) a = unread
by_setup r (Asks row) a = by_row r row a

-- a row that a packet matches, with what holds of every row
pub record Found (s : List ℕ) (Holds : Column × (ℕ → Setup) → Type 0) (x : Setup) : Type 0 where
  pub row : Column × (ℕ → Setup)
  pub holds : Holds row
  pub fits : Fits row.0 s
  pub asks : x ≡ row.1 (two_at s 2)

pub find : (s : List ℕ) (Holds : Column × (ℕ → Setup) → Type 0) (cs : List (Column × (ℕ → Setup))) (x : Setup) → Each Holds cs → Matches s cs x → Found s Holds x
find s Holds [] x t m = absurd m
find s Holds (c ∷ cs) x t (inl m) = record { row = c; holds = t.0; fits = m.0; asks = m.1 }
find s Holds (c ∷ cs) x t (inr m) = find s Holds cs x t.1 m

-- so it is with a row
abbrev Told : Reader → Answer → Column × (ℕ → Setup) → Type 0
Told r a c = (c.0.index < 256) × ((v : ℕ) → by_bytes r c.0.type c.0.request c.0.index a ≡ by_setup r (c.1 v) a)

told : (r : Reader) (a : Answer) (s : List ℕ) (x : Setup) → Found s (Told r a) x → by_bytes r (at s 0) (at s 1) (at s 4) a ≡ by_setup r x a
told r a s x f =
    let index : at s 4 ≡ f.row.0.index = let l = f.holds.0 in let e = f.fits.index in omega arith in
    (λ i. by_bytes r (f.fits.type i) (f.fits.request i) (index i) a) ∙ f.holds.1 (two_at s 2) ∙ ap (λ (y : Setup). by_setup r y a) (sym f.asks)

-- what holds of each, one behind the other
infixr 2 ◌▹◌
abbrev pub ◌▹◌ : {A B : Type 0} → A → B → A × B
a ▹ b = (a, b)

all_told : (r : Reader) (a : Answer) → Each (Told r a) rows
unfolding pick ◌and◌
all_told r a =
    (omega arith, λ _. refl) ▹ (omega arith, λ _. refl) ▹ (omega arith, λ _. refl) ▹ (omega arith, λ _. refl) ▹
    (omega arith, λ _. refl) ▹ (omega arith, λ _. refl) ▹ (omega arith, λ _. refl) ▹ (omega arith, λ _. refl) ▹
    (omega arith, λ _. refl) ▹ (omega arith, λ _. refl) ▹ (omega arith, λ _. refl) ▹ (omega arith, λ _. refl) ▹
    (omega arith, λ _. refl) ▹ (omega arith, λ _. refl) ▹ (omega arith, λ _. refl) ▹ (omega arith, λ _. refl) ▹
    (omega arith, λ _. refl) ▹ (omega arith, λ _. refl) ▹ (omega arith, λ _. refl) ▹ (omega arith, λ _. refl) ▹
    (omega arith, λ _. refl) ▹ (omega arith, λ _. refl) ▹ tt

pub setup_told : (r : Reader) (s : List ℕ) (a : Answer) (x : Setup) → a.verdict.number ≡ 0 → Matches s rows x → after_setup r s a ≡ by_setup r x a
unfolding after_setup
setup_told r s a x z m = at_true _ _ _ (eq-eqb _ _ z) ∙ told r a s x (find s (Told r a) rows x (all_told r a) m)

pub setup_unheard : (r : Reader) (s : List ℕ) (a : Answer) → Not (a.verdict.number ≡ 0) → after_setup r s a ≡ r
unfolding after_setup
setup_unheard r s a n = at_false _ _ _ (ne_eqb _ _ n)

-- ** a packet, as a reader takes it

pub absorbed_left : (o : BulkOut) (count : ℕ) → (absorbed o count).transfer.left ≡ o.transfer.left - count
unfolding absorbed
absorbed_left o count =
    pick_all (λ (x : BulkOut). x.transfer.left ≡ o.transfer.left - count) (o.transfer.left =ᵇ count) _ _
    (λ e. let z = eqb-true o.transfer.left count e in omega arith) (λ _. refl)

module _ (due : ℕ) (s : List ℕ) where
  pub due_more : Not (due ≡ 0) → due_after due s ≡ due - length s
  due_more n = at_true _ _ _ (lt-ltb 0 due (omega arith))

  module _ (between : due ≡ 0) where
    pub due_command : Commands s → due_after due s ≡ four_at s 4 - (length s - 12)
    due_command c = at_false _ _ _ (le-ltb 0 due (omega arith)) ∙ at_true _ _ _ (eq-eqb _ _ c)

    pub due_other : Not (Commands s) → due_after due s ≡ 0
    due_other n = at_false _ _ _ (le-ltb 0 due (omega arith)) ∙ at_false _ _ _ (ne_eqb _ _ n)

    pub is_request : Requests s → requests_now due s ≡ true
    is_request q = and_both _ _ (eq-eqb _ _ between) (eq-eqb _ _ q)

  pub no_request : Not (due ≡ 0) ⊎ Not (Requests s) → requests_now due s ≡ false
  no_request = ⊎_elim (λ n. and_left _ _ (ne_eqb _ _ n)) (λ n. and_right (due =ᵇ 0) _ (ne_eqb _ _ n))

module _ (r : Reader) (s : List ℕ) where
  pub packet_kept : (n : ℕ) → 0 < n → n ≤ 5 → after_packet r s n ≡ r
  unfolding after_packet
  packet_kept n a b = at_false _ _ _ (ne_eqb n 0 (λ e. omega arith)) ∙ at_false _ _ _ (and_left _ _ (le-ltb 5 n b))

  pub packet_halted : (n : ℕ) → 5 < n → n < 14 → after_packet r s n ≡ cut_off r
  unfolding after_packet
  packet_halted n a b = at_false _ _ _ (ne_eqb n 0 (λ e. omega arith)) ∙ at_true _ _ _ (and_both _ _ (lt-ltb 5 n a) (lt-ltb n 14 b))

  pub packet_done : after_packet r s 0 ≡ record { due = due_after r.due s; unsent = r.unsent; line = pick (requests_now r.due s) (asked (asked_by s)) r.line }
  unfolding after_packet
  packet_done = at_true _ _ _ refl

-- a REQUEST asks for what its bytes say
pub asks_same : (s : List ℕ) (tag size enabled term : ℕ) → Means s (Request tag size enabled term) → AsksFor (asked_in tag (min size STORE) enabled term) (asked_by s)
asks_same s tag size enabled term m =
    ⊎_elim
    (λ k.
    let plain : (at s 8 =ᵇ 2) ≡ false = ne_eqb (at s 8) 2 (λ e. let z = k.0 in omega arith) in
    record { phase = refl; tag = m.1; most = size_same; stops = ap on k.1 ∙ sym plain; char = λ e. absurd (true≢false (sym e ∙ plain)) })
    (λ k. record { phase = refl; tag = m.1; most = size_same; stops = ap on k.1 ∙ sym (eq-eqb (at s 8) 2 k.0); char = λ _. k.2 })
    m.3
  where
    size_same : min size STORE ≡ min (four_at s 4) STORE
    size_same = ap (λ (n : ℕ). min n STORE) m.2

-- a header that is refused halts
abbrev InRange : Read → Type 0
InRange (Err k) = (5 < number_of k) × (number_of k < 14)
InRange (Ok x) = Unit {0}

header_range : (s : List ℕ) → InRange (read_header s)
header_range s = header_ways s InRange (omega arith, omega arith) (λ _ _. tt) (omega arith, omega arith) (omega arith, omega arith) (omega arith, omega arith) (omega arith, omega arith)

-- ** what a packet comes to

module _ (st : State) (s : List ℕ) where
  abbrev pub Came : Outcome → Type 0
  Came (Keep n) = ((n ≡ 0) × (length s ≡ 0) × ((out_of st).transfer.left ≡ 0)) ⊎ ((0 < n) × (n ≤ 5))
  Came (Halt n) = (5 < n) × (n < 14)
  Came (Data count) = Not ((out_of st).transfer.left ≡ 0) × (count ≡ min (out_of st).transfer.left (length s))
  Came (Accept x count) = ((out_of st).transfer.left ≡ 0) × (count ≡ min (data_length x) (length s - HEADER)) × Means s x × (out_of_turn (out_of st) (in_of st) x ≡ false)

  header_came : (out_of st).transfer.left ≡ 0 → (x : Read) → read_header s ≡ x → InRange x → Came (header_says st s x)
  unfolding header_says
  header_came e (Err n) f k = k
  header_came e (Ok x) f k =
      decide_all Came halt_of (header_rules st s x) _ ((omega arith, omega arith), ((omega arith, omega arith), ((omega arith, omega arith), tt)))
      (λ n. (e, refl, header_law.meaning s x f, n.0))

  pub came : Came (outcome st s)
  unfolding outcome more
  came =
      decide_all Came keep_of (out_rules st (length s)) _
      (inr (omega arith, omega arith), (inr (omega arith, omega arith), (inr (omega arith, omega arith), (inr (omega arith, omega arith), tt))))
      (λ _. pick_all Came (is_open_out (out_of st)) _ _
      (λ e. decide_all Came halt_of (more_rules (packet_size st) (out_of st).transfer.left s) _ ((omega arith, omega arith), ((omega arith, omega arith), tt))
      (λ _. (neb_ne _ _ e, refl)))
      (λ e. pick_all Came (length s =ᵇ 0) _ _ (λ f. inl (refl, eqb-true _ _ f, neb_eq _ _ e)) (λ _. header_came (neb_eq _ _ e) (read_header s) refl (header_range s))))
