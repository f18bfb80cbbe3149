-- The ways that a Bulk-OUT packet can go, with what the tests on each way have shown: what holds of each holds of the outcome.
-- Assumes nothing.
use Prim.Native.Nat.{ℕ, ◌-◌, ◌≤◌, min}
use mathlib.Core.Path.{◌≡◌}
use mathlib.Core.Bool.{true, false}
use mathlib.Core.List.{List, [], ◌∷◌}
use lib.ListN.{length}
use borrow.Author.Tests.{ltb-false}
use Rattle.rules.specs.declared.refusal.Refusal.{Refusal}
use Rattle.rules.specs.Choice.{◌=ᵇ◌}
use Rattle.rules.specs.Answers.{DONE, NOT_IN_FOURS, SHORT_HEADER, BAD_TAG, UNKNOWN_MSGID, RESERVED, WRONG_LENGTH, TOO_LONG, OUT_OF_TURN}
use Rattle.rules.proofs.Choice.{NoneOf, Each, EachLine, pick_all, decide_all, decide_lines, neb_ne, neb_eq, not_no}
use Rattle.wire.specs.Header.{HEADER, read_header}
use Rattle.wire.specs.declared.types.Header.{Header}
use Rattle.wire.specs.Header.{Read}
use Rattle.std.specs.Prelude.{Ok}
use Rattle.wire.proofs.Lawful.{Reads, header_ways}
use Rattle.port.specs.Parts.{on, is_open_out, packet_size, out_of, is_configured}
use Rattle.port.specs.Out.{keep_of, halt_of, more_rules, more, data_length, header_rules, header_says, out_rules, outcome}
use Rattle.port.specs.declared.types.State.{State}
use Rattle.port.specs.declared.types.Outcome.{Outcome}
use Rattle.port.specs.declared.types.Outcome.TheVariants.{Keep, Halt, Data, Accept}

-- none of 2 to 5 applies to a packet of n bytes
pub record Passed (st : State) (n : ℕ) : Type 0 where
  pub configured : is_configured st ≡ true
  pub fits : n ≤ packet_size st
  pub running : on (out_of st).halted ≡ false
  pub unready : on (out_of st).message.ready ≡ false

-- a continuing packet that has no fault
pub record Continues (st : State) (s : List ℕ) : Type 0 where
  pub passed : Passed st (length s)
  pub is_open : (out_of st).transfer.left ≡ 0 → ⊥
  pub none : NoneOf (more_rules (packet_size st) (out_of st).transfer.left s)

-- a header that has no fault
pub record Heads (st : State) (s : List ℕ) (h : Header) : Type 0 where
  pub passed : Passed st (length s)
  pub between : (out_of st).transfer.left ≡ 0
  pub reads : Reads s (Ok h)
  pub none : NoneOf (header_rules st s h)

pub passed : (st : State) (n : ℕ) → NoneOf (out_rules st n) → Passed st n
passed st n h = record { configured = not_no _ h.0; fits = ltb-false _ _ h.1.0; running = h.1.1.0; unready = h.1.1.1.0 }

-- Q of every number that keeps, of every fault, of data and of a header
pub record Ways (st : State) (s : List ℕ) (Q : Outcome → Type 0) : Type 0 where
  pub keeps : EachLine (λ (r : Refusal). Q (keep_of r)) (out_rules st (length s))
  pub empty : Passed st (length s) → Q (Keep DONE)
  pub halts : Passed st (length s) → Each (λ (m : ℕ). Q (Halt m)) (NOT_IN_FOURS ∷ SHORT_HEADER ∷ BAD_TAG ∷ UNKNOWN_MSGID ∷ RESERVED ∷ OUT_OF_TURN ∷ TOO_LONG ∷ WRONG_LENGTH ∷ [])
  pub continues : Continues st s → Q (Data (min (out_of st).transfer.left (length s)))
  pub heads : (h : Header) → Heads st s h → Q (Accept h (min (data_length h) (length s - HEADER)))

module _ (st : State) (s : List ℕ) (Q : Outcome → Type 0) (w : Ways st s Q) where
  more_ways : Passed st (length s) → ((out_of st).transfer.left ≡ 0 → ⊥) → Q (more (packet_size st) (out_of st).transfer.left s)
  unfolding more
  more_ways p e =
      let h = w.halts p in
      decide_all Q halt_of (more_rules (packet_size st) (out_of st).transfer.left s) _ (h.0, (h.1.1.1.1.1.1.1.0, tt))
      (λ n. w.continues (record { passed = p; is_open = e; none = n }))

  good_ways : Passed st (length s) → (out_of st).transfer.left ≡ 0 → (h : Header) → Reads s (Ok h) → Q (header_says st s (Ok h))
  unfolding header_says
  good_ways p e h r =
      let f = w.halts p in
      decide_all Q halt_of (header_rules st s h) _ (f.1.1.1.1.1.0, (f.1.1.1.1.1.1.0, (f.1.1.1.1.1.1.1.0, tt)))
      (λ n. w.heads h (record { passed = p; between = e; reads = r; none = n }))

  says_ways : Passed st (length s) → (out_of st).transfer.left ≡ 0 → Q (header_says st s (read_header s))
  unfolding header_says
  says_ways p e =
      let f = w.halts p in
      header_ways s (λ (r : Read). Q (header_says st s r)) f.1.1.1.1.0 (good_ways p e) f.0 f.1.0 f.1.1.0 f.1.1.1.0

  pub outcome_ways : Q (outcome st s)
  unfolding outcome
  outcome_ways =
      decide_lines Q keep_of (out_rules st (length s)) _ w.keeps
      (λ n.
      let p = passed st (length s) n in
      pick_all Q (is_open_out (out_of st)) _ _ (λ e. more_ways p (neb_ne _ _ e))
      (λ e. pick_all Q (length s =ᵇ 0) _ _ (λ _. w.empty p) (λ _. says_ways p (neb_eq _ _ e))))
