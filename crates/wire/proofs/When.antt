-- THE LAW of headers and THE LAW of setup packets, proved of our readers: the first condition of 01 that holds of the bytes gives the number, and
-- the row that is read is the one that the bytes match.
-- Assumes nothing.
use Prim.Native.Nat.{ℕ, zero, suc, ◌+◌, ◌-◌, ◌%◌, ◌≤◌}
use mathlib.Core.Path.{◌≡◌, refl, sym, ap, ◌∙◌, subst}
use mathlib.Core.Bool.{Bool, true, false, cond, not, true≢false, false≢true}
use mathlib.Core.List.{List, [], ◌∷◌}
use mathlib.Core.Logic.{◌⊎◌, inl, inr, ⊎_elim}
use native.Mathlib.Omega.{arith}
use lib.Dec.{T}
use lib.ListN.{length, take, drop}
use lib.Seq.{slice, slice_empty, slice-cons}
use borrow.Author.Tests.{le-leb, leb-true, eq-eqb, eqb-true, eqb-false}
use Rattle.rules.specs.Choice.{◌=ᵇ◌, ◌≤ᵇ◌, pick, ◌&◌}
use Rattle.rules.specs.When.{Not, ◌when◌∣◌, else_0}
use Rattle.rules.proofs.Choice.{pick_all, AllOf, all_of, of_all}
use Rattle.rules.proofs.When.{Tells, in_words, equals, differs, is_less, negated, one_of, decided, sure, By, line, shared, line_in_words}
use Rattle.wire.specs.Bytes.{all_zero, number4, zeros}
use Rattle.wire.specs.Header.{HEADER, DEV_DEP_MSG_OUT, REQUEST_DEV_DEP_MSG_IN, MsgID, TransferSize}
use Rattle.wire.specs.Header.{D1, read_message, read_request, read_trigger, read_header, header_number}
use Rattle.wire.specs.Setup.{fitting, matches, row, by_endpoint, to_endpoint, to_interface, to_feature, to_status, to_device, read_setup}
use Rattle.wire.specs.When.{at, two_at, four_at, Zeros, Commands, Requests, Triggers, UnknownMsgID, BadCommand}
use Rattle.wire.specs.When.{BadRequest, BadTrigger, Reserved, Means, header_given, HeaderLaw}
use Rattle.wire.specs.When.{Column, ◌∣◌∣◌to◌∣◌∣◌▹◌∣◌, rows, Fits, Matches, RowOf, SetupLaw}
use Rattle.wire.specs.declared.types.Header.{Header}
use Rattle.wire.specs.Header.{Read}
use Rattle.std.specs.Prelude.{Ok, Err, Option, Some, None}
use Rattle.rules.specs.Answers.{number_of}
use Rattle.rules.specs.declared.refusal.Refusal.{Refusal}
use Rattle.wire.specs.declared.types.Endpoint.{Endpoint}
use Rattle.wire.specs.declared.types.Endpoint.TheVariants.{Out, In, Interrupt}
use Rattle.wire.specs.declared.types.Row.{Row}
use Rattle.wire.specs.declared.types.Row.TheVariants.{ClearFeature, SetFeature, GetStatus}
use Rattle.wire.specs.declared.types.Setup.{Setup}
use Rattle.wire.specs.declared.types.Setup.TheVariants.{Asks}
use Rattle.wire.proofs.Lawful.{good_lawful}

-- ** bytes that are all 0

all_zeros : (t : List ℕ) → Tells (all_zero t) (Zeros t)
all_zeros [] = record { held = λ _. tt; failed = λ e. absurd (true≢false e) }
all_zeros (zero ∷ t) = in_words (λ z. (refl, z)) (λ z. z.1) (all_zeros t)
all_zeros (suc n ∷ t) = record { held = λ e. absurd (false≢true e); failed = λ _ z. let e = z.0 in omega arith }

-- n bytes from a on
abbrev bytes_from : List ℕ → ℕ → ℕ → List ℕ
bytes_from s a zero = []
bytes_from s a (suc n) = at s a ∷ bytes_from s (suc a) n

slice_bytes : (s : List ℕ) (a n e : ℕ) → a + n ≡ e → e ≤ length s → slice a e s ≡ bytes_from s a n
slice_bytes s a zero e d l = let z : a ≡ e = omega arith in ap (λ (k : ℕ). slice k e s) z ∙ slice_empty e s
slice_bytes s a (suc n) e d l = slice-cons a e s 0 (omega arith) l ∙ ap (λ (t : List ℕ). at s a ∷ t) (slice_bytes s (suc a) n e (omega arith) l)

some_zeros : (s : List ℕ) (a n e : ℕ) → a + n ≡ e → e ≤ length s → Tells (zeros s a e) (Zeros (bytes_from s a n))
unfolding zeros
some_zeros s a n e d l = subst (λ (t : List ℕ). Tells (all_zero t) (Zeros (bytes_from s a n))) (sym (slice_bytes s a n e d l)) (all_zeros (bytes_from s a n))

same_size : (s : List ℕ) → TransferSize s ≡ four_at s 4
unfolding number4
same_size s = omega arith

-- ** a header

no_size : (s : List ℕ) → Tells (TransferSize s =ᵇ 0) (four_at s 4 ≡ 0)
no_size s = let e = same_size s in in_words (λ z. omega arith) (λ z. omega arith) (equals (TransferSize s) 0)

-- the number of what is read, and what is asked of it behind 10
module _ (s : List ℕ) (P : Read → ℕ) (later : Read → ℕ → Type 0) (faults : (r : Refusal) → P (Err r) ≡ number_of r) (good : (h : Header) → Means s h → By P later (Ok h)) where
  module _ (long : HEADER ≤ length s) where
    message_when : Commands s → By P (λ r. 10 when BadCommand s ∣ later r) (read_message s)
    unfolding read_message
    message_when c =
        shared _ (differs (at s 3) 0) (faults Refusal.Reserved)
        (λ _. shared _ (no_size s) (faults Refusal.Reserved)
        (λ _. shared _ (in_words (λ l. (λ e. omega arith, λ e. omega arith)) (λ n. omega arith) (is_less _ (at s 8))) (faults Refusal.Reserved)
        (λ _. line _ (negated (in_words (λ z. (z.0, z.1.0, z.1.1.0)) (λ z. (z.0, (z.1, (z.2, tt)))) (some_zeros s 9 3 HEADER refl long))) (faults Refusal.Reserved)
        (λ _. good _ (c, refl, same_size s, refl)))))

    request_when : Requests s → By P (λ r. 10 when BadRequest s ∣ later r) (read_request s)
    unfolding read_request
    request_when c =
        shared _ (differs (at s 3) 0) (faults Refusal.Reserved)
        (λ _. shared _ (no_size s) (faults Refusal.Reserved)
        (λ _. shared _ (in_words (λ n. (λ e. n (inl e), λ e. n (inr e))) (λ n. ⊎_elim n.0 n.1) (negated (one_of (equals (at s 8) 0) (equals (at s 8) D1)))) (faults Refusal.Reserved)
        (λ n. line _ (negated (in_words (λ z. (z.0, z.1.0)) (λ z. (z.0, (z.1, tt))) (some_zeros s 10 2 HEADER refl long))) (faults Refusal.Reserved)
        (λ _. pick_all (By P _) _ _ _
        (λ e. good _ (c, refl, same_size s, inl (eqb-true _ _ e, refl, refl)))
        (λ e. good _ (c, refl, same_size s, inr (sure _ (equals (at s 8) 2) (λ d. n (eqb-false _ _ e, d)), refl, refl)))))))

    trigger_when : Triggers s → By P (λ r. 10 when BadTrigger s ∣ later r) (read_trigger s)
    unfolding read_trigger
    trigger_when c = line _ (negated (in_words (λ z. search) (λ z. search) (some_zeros s 3 9 HEADER refl long))) (faults Refusal.Reserved) (λ _. good _ (c, refl))

    kind_when : Not (UnknownMsgID s)
        → By P (λ r. 10 when Reserved s ∣ later r) (pick (MsgID s =ᵇ DEV_DEP_MSG_OUT) (read_message s) (pick (MsgID s =ᵇ REQUEST_DEV_DEP_MSG_IN) (read_request s) (read_trigger s)))
    kind_when known =
        pick_all (By P _) _ _ _
        (λ e. let c : Commands s = eqb-true _ _ e in
        line_in_words (λ b. inl (c, b)) (⊎_elim (λ r. r.1) (⊎_elim (λ r. let d = r.0 in absurd (omega arith)) (λ r. let d = r.0 in absurd (omega arith)))) (message_when c))
        (λ e. pick_all (By P _) _ _ _
        (λ f. let c : Requests s = eqb-true _ _ f in
        line_in_words (λ b. inr (inl (c, b))) (⊎_elim (λ r. let d = r.0 in absurd (omega arith)) (⊎_elim (λ r. r.1) (λ r. let d = r.0 in absurd (omega arith)))) (request_when c))
        (λ f. let c : Triggers s = sure _ (equals (at s 0) 128) (λ t. known (eqb-false _ _ e, eqb-false _ _ f, t)) in
        line_in_words (λ b. inr (inr (c, b))) (⊎_elim (λ r. let d = r.0 in absurd (omega arith)) (⊎_elim (λ r. let d = r.0 in absurd (omega arith)) (λ r. r.1))) (trigger_when c)))

  pub header_when : Not (length s ≡ 0) → By P (λ r. header_given s (later r)) (read_header s)
  unfolding read_header
  header_when some =
      line _ (differs (length s % 4) 0) (faults Refusal.NotInFours)
      (λ f.
      let fours = sure _ (equals (length s % 4) 0) f in
      line _ (in_words (λ l. ⊎_elim inl (λ n. inr (omega arith)) (decided _ (equals (length s) 4)))
      (⊎_elim (λ e. omega arith) (λ e. omega arith)) (is_less (length s) HEADER)) (faults Refusal.ShortHeader)
      (λ long. line _ (one_of (equals (at s 1) 0) (differs (at s 2) (255 - at s 1))) (faults Refusal.BadTag)
      (λ _. line _ (in_words (λ n. (λ e. n (inl e), λ e. n (inr (inl e)), λ e. n (inr (inr e)))) (λ n. ⊎_elim n.0 (⊎_elim n.1 n.2))
      (negated (one_of (equals (at s 0) 1) (one_of (equals (at s 0) 2) (equals (at s 0) 128))))) (faults Refusal.UnknownMsgId)
      (kind_when (let four : Not (length s ≡ 4) = λ e. long (inl e) in let eight : Not (length s ≡ 8) = λ e. long (inr e) in omega arith)))))

-- what a good header says
abbrev Says : List ℕ → Read → Type 0
Says s (Ok h) = Means s h
Says s (Err n) = Unit {0}

-- a line that is not that of 0
past : {m : ℕ} {G B : Type 0} → ((0 ≡ suc m) × G) ⊎ (Not G × B) → B
past (inl r) = let e = r.0 in absurd (omega arith)
past (inr r) = r.1

pub header_law : HeaderLaw read_header
header_law = record {
  faults = λ s some. (header_when s header_number (λ _. else_0) (λ n. refl) (λ h _. record { told = refl }) some).told;
  meaning = λ s h e.
      let k = (header_when s header_number (λ r _. Says s r) (λ n. refl) (λ h m. record { told = m }) (λ z. let l = (good_lawful s h e).0 in omega arith)).told in
      past (past (past (past (past (subst (λ (r : Read). header_given s (λ _. Says s r) (header_number r)) e k)))));
}

-- ** a setup packet

-- what is read, `x`, is what the one row says that matches; or no row does
pub data Right (s : List ℕ) (rs : List (Column × (ℕ → Setup))) (x : Option Setup) : Type 0 where
  matched : {y : Setup} → x ≡ Some y → Matches s rs y → ((z : Setup) → Matches s rs z → z ≡ y) → Right s rs x
  unmatched : x ≡ None → ((y : Setup) → Not (Matches s rs y)) → Right s rs x

-- a column that the packet shows
record Key (s : List ℕ) : Type 0 where
  column : Column → ℕ
  seen : ℕ
  same : (c : Column) → Fits c s → seen ≡ column c

-- the column of each row passes a test
abbrev have : (ℕ → Bool) → (Column → ℕ) → List (Column × (ℕ → Setup)) → Bool
have test column [] = true
have test column (r ∷ rs) = cond (test (column r.0)) (have test column rs) false

both_hold : (a b : Bool) → T (cond a b false) → (a ≡ true) × T b
both_hold true b h = (refl, h)
both_hold false b h = absurd h

module _ (s : List ℕ) where
  abbrev type : Key s
  type = record { column = λ c. c.type; seen = at s 0; same = λ c f. f.type }

  abbrev request : Key s
  request = record { column = λ c. c.request; seen = at s 1; same = λ c f. f.request }

  abbrev index : Key s
  index = record { column = λ c. c.index; seen = two_at s 4; same = λ c f. f.index }

  end : Right s [] None
  end = unmatched refl (λ y m. m)

  -- a row, whose bytes 0 and 1 are seen
  row_read : {c : Column} {asks : ℕ → Setup} → at s 0 ≡ c.type → at s 1 ≡ c.request
      → Right s ((c, asks) ∷ []) (row (matches s c.low c.high c.index c.size) (asks (two_at s 2)))
  unfolding fitting
  row_read {c} {asks} t r =
      pick_all (Right s ((c, asks) ∷ [])) _ _ _
      (λ e.
      let h = all_of tests e in
      let f : Fits c s = record { type = t; request = r; low = leb-true _ _ h.0; high = leb-true _ _ h.1.0; index = eqb-true _ _ h.1.1.0; size = eqb-true _ _ h.1.1.1.0 } in
      matched refl (inl (f, refl)) (λ y. ⊎_elim (λ m. m.1) absurd))
      (λ e. unmatched refl (λ y. ⊎_elim (λ m. true≢false (sym (of_all tests (all_pass m.0)) ∙ e)) (λ z. z)))
    where
      tests : List Bool
      tests = c.low ≤ᵇ two_at s 2 & two_at s 2 ≤ᵇ c.high & two_at s 4 =ᵇ c.index & two_at s 6 =ᵇ c.size & []

      all_pass : Fits c s → AllOf tests
      all_pass f = (le-leb _ _ f.low, (le-leb _ _ f.high, (eq-eqb _ _ f.index, (eq-eqb _ _ f.size, tt))))

  -- ** the first n rows and the others

  split : (n : ℕ) (rs : List (Column × (ℕ → Setup))) (y : Setup) → Matches s rs y → Matches s (take n rs) y ⊎ Matches s (drop n rs) y
  split zero rs y m = inr m
  split (suc n) [] y m = inr m
  split (suc n) (r ∷ rs) y (inl m) = inl (inl m)
  split (suc n) (r ∷ rs) y (inr m) = ⊎_elim (λ k. inl (inr k)) inr (split n rs y m)

  of_take : (n : ℕ) (rs : List (Column × (ℕ → Setup))) (y : Setup) → Matches s (take n rs) y → Matches s rs y
  of_take zero rs y m = absurd m
  of_take (suc n) [] y m = absurd m
  of_take (suc n) (r ∷ rs) y (inl m) = inl m
  of_take (suc n) (r ∷ rs) y (inr m) = inr (of_take n rs y m)

  of_drop : (n : ℕ) (rs : List (Column × (ℕ → Setup))) (y : Setup) → Matches s (drop n rs) y → Matches s rs y
  of_drop zero rs y m = m
  of_drop (suc n) [] y m = m
  of_drop (suc n) (r ∷ rs) y m = inr (of_drop n rs y m)

  -- the rows of one part, where none of the other matches
  part : {rs part : List (Column × (ℕ → Setup))} {x : Option Setup} → ((y : Setup) → Matches s rs y → Matches s part y) → ((y : Setup) → Matches s part y → Matches s rs y)
      → Right s part x → Right s rs x
  part f g (matched e m k) = matched e (g _ m) (λ y l. k y (f y l))
  part f g (unmatched e k) = unmatched e (λ y l. k y (f y l))

  module _ (key : Key s) where
    none : (test : ℕ → Bool) (rs : List (Column × (ℕ → Setup))) → T (have test key.column rs) → test key.seen ≡ false → (y : Setup) → Not (Matches s rs y)
    none test [] h e y m = m
    none test (r ∷ rs) h e y (inl m) = true≢false (sym (both_hold _ _ h).0 ∙ sym (ap test (key.same r.0 m.0)) ∙ e)
    none test (r ∷ rs) h e y (inr m) = none test rs (both_hold (test (key.column r.0)) _ h).1 e y m

    -- the first n rows have the value v, and the others have not
    by_key : (n v : ℕ) {rs : List (Column × (ℕ → Setup))} {a b : Option Setup} → T (have (λ k. k =ᵇ v) key.column (take n rs)) → T (have (λ k. not (k =ᵇ v)) key.column (drop n rs))
        → (key.seen ≡ v → Right s (take n rs) a) → Right s (drop n rs) b → Right s rs (pick (key.seen =ᵇ v) a b)
    by_key n v {rs} h l f g =
        pick_all (Right s rs) (key.seen =ᵇ v) _ _
        (λ e. part (λ y m. ⊎_elim (λ k. k) (λ k. absurd (none (λ k. not (k =ᵇ v)) (drop n rs) l (ap not e) y k)) (split n rs y m)) (of_take n rs) (f (eqb-true _ _ e)))
        (λ e. part (λ y m. ⊎_elim (λ k. absurd (none (λ k. k =ᵇ v) (take n rs) h e y k)) (λ k. k) (split n rs y m)) (of_drop n rs) g)

  -- the rows of the three endpoints
  endpoints : (t q size : ℕ) (asked : Endpoint → Row) → at s 0 ≡ t → at s 1 ≡ q
      → Right s (t ∣ q ∣ 0 to 0 ∣ 0x01 ∣ size ▹ (λ _. Asks (asked Out)) ∣ t ∣ q ∣ 0 to 0 ∣ 0x82 ∣ size ▹ (λ _. Asks (asked In)) ∣ t ∣ q ∣ 0 to 0 ∣ 0x83 ∣ size ▹
      (λ _. Asks (asked Interrupt)) ∣ []) (by_endpoint s size asked)
  endpoints t q size asked e f =
      by_key index 1 0x01 tt tt (λ _. row_read e f) (by_key index 1 0x82 tt tt (λ _. row_read e f) (by_key index 1 0x83 tt tt (λ _. row_read e f) end))

  pub setup_read : Right s rows (read_setup s)
  unfolding read_setup to_endpoint to_interface to_feature to_status to_device
  setup_read =
      by_key type 4 0xA2 tt tt
      (λ t. by_key request 1 1 tt tt (row_read t)
      (by_key request 1 2 tt tt (row_read t)
      (by_key request 1 3 tt tt (row_read t)
      (by_key request 1 4 tt tt (row_read t) end))))
      (by_key type 8 0xA1 tt tt
      (λ t. by_key request 1 5 tt tt (row_read t)
      (by_key request 1 6 tt tt (row_read t)
      (by_key request 1 7 tt tt (row_read t)
      (by_key request 1 64 tt tt (row_read t)
      (by_key request 1 128 tt tt (row_read t)
      (by_key request 1 160 tt tt (row_read t)
      (by_key request 1 161 tt tt (row_read t)
      (by_key request 1 162 tt tt (row_read t) end))))))))
      (by_key type 6 0x02 tt tt
      (λ t. by_key request 3 1 tt tt (endpoints 0x02 1 0 ClearFeature t)
      (by_key request 3 3 tt tt (endpoints 0x02 3 0 SetFeature t) end))
      (by_key type 3 0x82 tt tt
      (λ t. by_key request 3 0 tt tt (endpoints 0x82 0 2 GetStatus t) end)
      (by_key type 1 0x00 tt tt
      (λ t. by_key request 1 9 tt tt (row_read t) end)
      end))))

pub setup_law : SetupLaw read_setup
setup_law s = by (read_setup s) (setup_read s)
  where
    by : (x : Option Setup) → Right s rows x → RowOf s x
    by x (matched e m k) = subst (RowOf s) (sym e) m
    by x (unmatched e k) = subst (RowOf s) (sym e) k
