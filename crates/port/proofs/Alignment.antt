-- THE LAW of alignment bytes, proved of our step: what a packet comes to is told by its length and its header, and no more than the data is copied.
-- Assumes nothing.
use Prim.Native.Nat.{ℕ, zero, suc, ◌+◌, ◌≤◌}
use mathlib.Core.Path.{◌≡◌, refl, sym, ap, ◌∙◌}
use mathlib.Core.List.{List, [], ◌∷◌, ◌++◌}
use mathlib.Core.Logic.{⊎_elim}
use native.Mathlib.Omega.{arith}
use lib.ListN.{length, take, drop}
use lib.Seq.{take-nil, take-take}
use Rattle.rules.specs.Choice.{◌=ᵇ◌, pick, decide}
use Rattle.rules.specs.Answers.{DONE, UNSOUND}
use Rattle.rules.proofs.Choice.{at_true, at_false, eq_neb, ne_neb}
use Rattle.rules.proofs.When.{equals, decided}
use Rattle.wire.specs.Header.{read_header}
use Rattle.wire.specs.When.{four_at}
use Rattle.wire.specs.declared.types.Header.TheVariants.{Message, Request, Trigger}
use Rattle.wire.specs.Header.{Read}
use Rattle.std.specs.Prelude.{Ok, Err}
use Rattle.wire.proofs.Twelve.{read_alike}
use Rattle.port.specs.Alignment.{EqualButAlignment, AlignmentIgnored}
use Rattle.port.specs.Calls.{refused, with_message, bulk_out}
use Rattle.port.specs.Device.{Device, Result, is_sound}
use Rattle.port.specs.Out.{keep_of, more, header_says, out_rules, outcome, planned, accepted, out_plan}
use Rattle.port.specs.Parts.{is_open_out, packet_size, out_of}
use Rattle.port.specs.Step.{soundly, step}
use Rattle.port.specs.declared.types.Outcome.{Outcome}
use Rattle.port.specs.declared.types.Outcome.TheVariants.{Keep, Halt, Data, Accept}
use Rattle.port.specs.declared.types.State.{State}
use Rattle.port.proofs.Readers.{Came, came}

-- bytes that are the same as far as `n` are the same as far as less
shorter : (k n : ℕ) (s t : List ℕ) → k ≤ n → take n s ≡ take n t → take k s ≡ take k t
shorter k n s t l e = sym (take-take k n s l) ∙ ap (take k) e ∙ take-take k n t l

past : (n k m : ℕ) (s : List ℕ) → m ≡ n + k → drop n (take m s) ≡ take k (drop n s)
past zero k m s e = let f : m ≡ k = omega arith in ap (λ (j : ℕ). take j s) f
past (suc n) k zero s e = absurd (omega arith)
past (suc n) k (suc m) [] e = sym (take-nil k)
past (suc n) k (suc m) (b ∷ s) e = past n k m s (omega arith)

module _ (u : Device) (s t : List ℕ) (same : EqualButAlignment u s t) where
  abbrev st : State
  st = u.state

  abbrev left : ℕ
  left = (out_of st).transfer.left

  abbrev held : ℕ
  held = (out_of st).message.held

  more_alike : more (packet_size st) left s ≡ more (packet_size st) left t
  unfolding more
  more_alike = rw same.long

  says_alike : (x y : Read) → x ≡ y → header_says st s x ≡ header_says st t y
  unfolding header_says
  says_alike (Err n) y e = ap (header_says st t) e
  says_alike (Ok h) y e = rw same.long (ap (header_says st t) e)

  -- the header is the same: its TransferSize is a part of it
  header_alike : left ≡ 0 → read_header s ≡ read_header t
  header_alike closed = read_alike s t same.long (shorter 12 (12 + four_at s 4) s t (omega arith) (same.header (λ opened. opened closed)))

  -- behind 2 to 5
  inside : pick (is_open_out (out_of st)) (more (packet_size st) left s) (pick (length s =ᵇ 0) (Keep DONE) (header_says st s (read_header s)))
      ≡ pick (is_open_out (out_of st)) (more (packet_size st) left t) (pick (length t =ᵇ 0) (Keep DONE) (header_says st t (read_header t)))
  inside =
      ⊎_elim
      (λ closed. at_false _ _ _ (eq_neb left 0 closed) ∙ (λ i. pick (same.long i =ᵇ 0) (Keep DONE) (says_alike _ _ (header_alike closed) i)) ∙ sym (at_false _ _ _ (eq_neb left 0 closed)))
      (λ opened. at_true _ _ _ (ne_neb left 0 opened) ∙ more_alike ∙ sym (at_true _ _ _ (ne_neb left 0 opened)))
      (decided _ (equals left 0))

  outcome_alike : outcome st s ≡ outcome st t
  unfolding outcome
  outcome_alike i = decide keep_of (out_rules st (same.long i)) (inside i)

  -- what is copied is the same
  copied : (x : Outcome) → Came st s x → let plan = planned st x in take plan.count (drop plan.from s) ≡ take plan.count (drop plan.from t)
  unfolding planned accepted
  copied (Keep n) c = refl
  copied (Halt n) c = refl
  copied (Data count) c = shorter count left s t (omega arith) (same.more c.0)
  copied (Accept (Message tag size end) count) c =
      let k = c.2.2 in
      behind (shorter (12 + count) (12 + four_at s 4) s t (omega arith) (same.header (λ opened. opened c.0)))
    where
      behind : take (12 + count) s ≡ take (12 + count) t → take count (drop 12 s) ≡ take count (drop 12 t)
      behind e = sym (past 12 count _ s refl) ∙ ap (drop 12) e ∙ past 12 count _ t refl
  copied (Accept (Request tag size enabled term) count) c = refl
  copied (Accept (Trigger tag) count) c = refl

  out_alike : bulk_out u s ≡ bulk_out u t
  unfolding bulk_out out_plan
  out_alike =
      (λ i. record {
        unit = record {
          message = take held u.message ++ copied (outcome st s) (came st s) i ++ drop (held + (planned st (outcome st s)).count) u.message;
          reply = u.reply;
          state = (planned st (outcome st s)).state;
        };
        answer = record { verdict = (planned st (outcome st s)).verdict; bytes = [] };
      })
      ∙ ap (λ (x : Outcome). with_message u t (planned st x)) outcome_alike

pub alignment_ignored : AlignmentIgnored step
unfolding step soundly
alignment_ignored u s t same = ap (λ (r : Result). pick (is_sound u) r (refused u UNSOUND)) (out_alike u s t same)
