-- What a Bulk-OUT packet comes to, with what is heard of it.
-- Assumes nothing.
use Prim.Native.Nat.{ℕ, ◌-◌, min}
use mathlib.Core.Path.{◌≡◌, refl, ◌∙◌}
use mathlib.Core.Bool.{true, false}
use mathlib.Core.List.{List}
use mathlib.Core.Logic.{◌⊎◌, inl, inr}
use lib.ListN.{length}
use borrow.Author.Tests.{eqb-true, eqb-false}
use Rattle.rules.specs.Answers.{number_of}
use Rattle.rules.specs.Choice.{◌=ᵇ◌, ◌<ᵇ◌}
use Rattle.rules.specs.Answers.{DONE, UNCONFIGURED, WRONG_SIZE, HALTED, WAIT, NOT_IN_FOURS, SHORT_HEADER, BAD_TAG}
use Rattle.rules.specs.Answers.{UNKNOWN_MSGID, RESERVED, WRONG_LENGTH, TOO_LONG, OUT_OF_TURN}
use Rattle.rules.proofs.Choice.{pick_all, decide_all, at_true, at_false, and_left, and_both, neb_ne, neb_eq}
use Rattle.wire.specs.Header.{HEADER, DEV_DEP_MSG_OUT, REQUEST_DEV_DEP_MSG_IN, MsgID, message_rules, request_rules}
use Rattle.wire.specs.Header.{trigger_rules, reading_rules, read_message, read_request, read_trigger, read_header}
use Rattle.wire.specs.Header.{Read}
use Rattle.std.specs.Prelude.{Ok, Err}
use Rattle.port.specs.Parts.{packet_size, is_open_out, out_of}
use Rattle.port.specs.Out.{keep_of, halt_of, more_rules, more, data_length, header_rules, header_says, out_rules, outcome}
use Rattle.port.specs.declared.types.State.{State}
use Rattle.port.specs.declared.types.Outcome.{Outcome}
use Rattle.port.specs.declared.types.Outcome.TheVariants.{Keep, Halt, Data, Accept}
use Rattle.claims.specs.Wire.{nothing, accepted, broken_off, heard_packet}

-- ** what is heard

module _ (s : List ℕ) where
  pub passing : heard_packet s DONE ≡ accepted s
  unfolding heard_packet
  passing = at_true _ _ _ refl

  keeping : (n : ℕ) → (n =ᵇ 0) ≡ false → (5 <ᵇ n) ≡ false → heard_packet s n ≡ nothing
  unfolding heard_packet
  keeping n e f = at_false _ _ _ e ∙ at_false _ _ _ (and_left _ _ f)

  halting : (n : ℕ) → (n =ᵇ 0) ≡ false → (5 <ᵇ n) ≡ true → (n <ᵇ 14) ≡ true → heard_packet s n ≡ broken_off
  unfolding heard_packet
  halting n e f g = at_false _ _ _ e ∙ at_true _ _ _ (and_both _ _ f g)

-- ** what a packet comes to

-- a header is read or halts
abbrev Reads : List ℕ → Read → Type 0
Reads s (Err k) = heard_packet s (number_of k) ≡ broken_off
Reads s (Ok h) = Unit {0}

header_read : (s : List ℕ) → Reads s (read_header s)
unfolding read_header read_message read_request read_trigger
header_read s =
    let ten = halting s RESERVED refl refl refl in
    decide_all (Reads s) Err (reading_rules s) _
    (halting s NOT_IN_FOURS refl refl refl, (halting s SHORT_HEADER refl refl refl, (halting s BAD_TAG refl refl refl, (halting s UNKNOWN_MSGID refl refl refl, tt))))
    (λ _. pick_all (Reads s) (MsgID s =ᵇ DEV_DEP_MSG_OUT) _ _ (λ _. decide_all (Reads s) Err (message_rules s) _ (ten, (ten, (ten, (ten, tt)))) (λ _. tt))
    (λ _. pick_all (Reads s) (MsgID s =ᵇ REQUEST_DEV_DEP_MSG_IN) _ _
    (λ _. decide_all (Reads s) Err (request_rules s) _ (ten, (ten, (ten, (ten, tt)))) (λ _. pick_all (Reads s) _ _ _ (λ _. tt) (λ _. tt)))
    (λ _. decide_all (Reads s) Err (trigger_rules s) _ (ten, tt) (λ _. tt))))

abbrev pub Facts : State → List ℕ → Outcome → Type 0
Facts st s (Keep n) = ((n ≡ 0) × (length s ≡ 0) × ((out_of st).transfer.left ≡ 0)) ⊎ (heard_packet s n ≡ nothing)
Facts st s (Halt n) = heard_packet s n ≡ broken_off
Facts st s (Data count) = ((out_of st).transfer.left ≡ 0 → ⊥) × (count ≡ min (out_of st).transfer.left (length s))
Facts st s (Accept h count) = ((out_of st).transfer.left ≡ 0) × (length s ≡ 0 → ⊥) × (count ≡ min (data_length h) (length s - HEADER)) × (read_header s ≡ Ok h)

module _ (st : State) (s : List ℕ) where
  more_facts : ((out_of st).transfer.left ≡ 0 → ⊥) → Facts st s (more (packet_size st) (out_of st).transfer.left s)
  unfolding more
  more_facts e =
      decide_all (Facts st s) halt_of (more_rules (packet_size st) (out_of st).transfer.left s) _
      (halting s NOT_IN_FOURS refl refl refl, (halting s WRONG_LENGTH refl refl refl, tt))
      (λ _. (e, refl))

  header_facts : (out_of st).transfer.left ≡ 0 → (length s ≡ 0 → ⊥) → (r : Read) → read_header s ≡ r → Reads s r → Facts st s (header_says st s r)
  unfolding header_says
  header_facts e some (Err n) is k = k
  header_facts e some (Ok h) is k =
      decide_all (Facts st s) halt_of (header_rules st s h) _ (
        halting s OUT_OF_TURN refl refl refl,
        (halting s TOO_LONG refl refl refl, (halting s WRONG_LENGTH refl refl refl, tt)),
      )
      (λ _. (e, some, refl, is))

  pub outcome_facts : Facts st s (outcome st s)
  unfolding outcome
  outcome_facts =
      decide_all (Facts st s) keep_of (out_rules st (length s)) _
      (inr (keeping s UNCONFIGURED refl refl), (inr (keeping s WRONG_SIZE refl refl), (inr (keeping s HALTED refl refl), (inr (keeping s WAIT refl refl), tt))))
      (λ _. pick_all (Facts st s) (is_open_out (out_of st)) _ _ (λ e. more_facts (neb_ne _ _ e))
      (λ e. pick_all (Facts st s) (length s =ᵇ 0) _ _ (λ f. inl (refl, eqb-true _ _ f, neb_eq _ _ e)) (λ f. header_facts (neb_eq _ _ e) (eqb-false _ _ f) (read_header s) refl (header_read s))))
