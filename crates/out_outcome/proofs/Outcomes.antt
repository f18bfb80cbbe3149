-- What a Bulk-OUT packet comes to, a law for each way that the code takes: each turns the tests that led there into the definition's outcome.
-- Assumes nothing.
use Prim.Native.Nat.{ℕ, ◌-◌, min}
use mathlib.Core.Path.{◌≡◌, refl, ◌∙◌}
use mathlib.Core.List.{List}
use lib.ListN.{length}
use borrow.Author.Tests.{eq-eqb, ne_eqb}
use Rattle.std.specs.Prelude.{Result, Ok, Err}
use Rattle.rules.specs.Choice.{gate}
use Rattle.rules.specs.declared.refusal.Refusal.{Refusal}
use Rattle.rules.proofs.Choice.{eq_neb, ne_neb, pick_true, pick_false, refuses, passes}
use Rattle.wire.specs.Header.{HEADER, Read, read_header}
use Rattle.wire.specs.declared.types.Header.{Header}
use Rattle.port.specs.Parts.{packet_size, out_of}
use Rattle.port.specs.Out.{keep_of, halt_of, more, data_length, header_rules, header_says, out_rules, outcome}
use Rattle.port.specs.declared.types.State.{State}
use Rattle.port.specs.declared.types.Outcome.{Outcome}
use Rattle.port.specs.declared.types.Outcome.TheVariants.{Keep, Accept}

-- ** a header

module _ (st : State) (s : List ℕ) (read : Read) where
  pub header_faulty : (r : Refusal) → read ≡ Err r → halt_of r ≡ header_says st s read
  unfolding header_says
  header_faulty r e = rw e refl

  module _ (h : Header) (is : read ≡ Ok h) (fault : Result (Unit {0}) Refusal) (told : fault ≡ gate (header_rules st s h)) where
    pub header_halts : (r : Refusal) → fault ≡ Err r → halt_of r ≡ header_says st s read
    unfolding header_says
    header_halts r e = rw is (refuses halt_of (header_rules st s h) _ fault told r e)

    pub header_accepted : fault ≡ Ok tt → Accept h (min (data_length h) (length s - HEADER)) ≡ header_says st s read
    unfolding header_says
    header_accepted e = rw is (passes halt_of (header_rules st s h) _ fault told e)

-- ** any packet

module _ (st : State) (s : List ℕ) (told : Result (Unit {0}) Refusal) (is : told ≡ gate (out_rules st (length s))) where
  pub outcome_kept : (r : Refusal) → told ≡ Err r → keep_of r ≡ outcome st s
  unfolding outcome
  outcome_kept r e = refuses keep_of (out_rules st (length s)) _ told is r e

  module _ (passed : told ≡ Ok tt) where
    pub outcome_more : (r : Outcome) → ((out_of st).transfer.left ≡ 0 → ⊥) → r ≡ more (packet_size st) (out_of st).transfer.left s → r ≡ outcome st s
    unfolding outcome
    outcome_more r e f = pick_true r _ _ _ (ne_neb _ 0 e) f ∙ passes keep_of (out_rules st (length s)) _ told is passed

    pub outcome_empty : (out_of st).transfer.left ≡ 0 → length s ≡ 0 → Keep 0 ≡ outcome st s
    unfolding outcome
    outcome_empty e f = pick_false _ _ _ _ (eq_neb _ 0 e) (pick_true _ _ _ _ (eq-eqb _ 0 f) refl) ∙ passes keep_of (out_rules st (length s)) _ told is passed

    pub outcome_header : (r : Outcome) → (out_of st).transfer.left ≡ 0 → (length s ≡ 0 → ⊥) → r ≡ header_says st s (read_header s) → r ≡ outcome st s
    unfolding outcome
    outcome_header r e f g = pick_false r _ _ _ (eq_neb _ 0 e) (pick_false r _ _ _ (ne_eqb _ 0 f) g) ∙ passes keep_of (out_rules st (length s)) _ told is passed

pub ruleset outcome_ways = (outcome_more, outcome_empty)
