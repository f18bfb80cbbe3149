-- The two calls in place, and what their promises fix: two units and answers that meet one are equal (`..-unique`), and such a unit and answer are
-- the definitions' step (`..-step`).
-- Assumes nothing.
use Prim.Native.Nat.{ℕ}
use mathlib.Core.Path.{◌≡◌, sym, ap, ◌∙◌}
use mathlib.Core.List.{List}
use lib.ListN.{length, take, drop}
use lib.Seq.{take_at, drop_at}
use Rattle.rules.specs.declared.verdict.Verdict.{Verdict}
use Rattle.port.specs.Step.{in_poll, out_packet, quiet, step}
use Rattle.port.proofs.Silent.{packet, silent}
use Rattle.unit.specs.Promise.{device_of}
use Rattle.unit.specs.declared.types.Unit.{Unit}
use Rattle.unit_inplace.specs.InPlace.{Alters, Sends, IsStepAt, IsPollAt}
use Rattle.unit_inplace.specs.declared.types.Sent.{Sent}

-- ** a Bulk-OUT packet

module _ (u : Unit) (s : List ℕ) (u' : Unit) (r : Verdict) (meets : Alters (step (device_of u) (out_packet s)) u' r) where
  pub packet_in_place_unique : (u'' : Unit) (r' : Verdict) → Alters (step (device_of u) (out_packet s)) u'' r' → (u' ≡ u'') × (r ≡ r')
  packet_in_place_unique u'' r' k = (meets.unit ∙ sym k.unit, meets.verdict ∙ sym k.verdict)

  pub packet_in_place_step : IsStepAt (step (device_of u) (out_packet s)) u' r
  packet_in_place_step = record { unit = ap device_of meets.unit; verdict = meets.verdict; bytes = silent (device_of u) (out_packet s) (packet s) }

-- ** a Bulk-IN poll

module _ (u : Unit) (b b' : List ℕ) (u' : Unit) (r : Sent) (meets : Sends (step (device_of u) (quiet (in_poll (length b)))) b b' u' r) where
  pub poll_in_place_unique : (b'' : List ℕ) (u'' : Unit) (r' : Sent) → Sends (step (device_of u) (quiet (in_poll (length b)))) b b'' u'' r' → (u' ≡ u'') × (r ≡ r') × (b' ≡ b'')
  poll_in_place_unique b'' u'' r' k =
      (meets.unit ∙ sym k.unit, (λ i. record { verdict = (meets.verdict ∙ sym k.verdict) i; len = (meets.len ∙ sym k.len) i }), meets.buffer ∙ sym k.buffer)

  pub poll_in_place_step : IsPollAt (step (device_of u) (quiet (in_poll (length b)))) b b' u' r
  poll_in_place_step =
      let bytes = (step (device_of u) (quiet (in_poll (length b)))).answer.bytes in
      record {
        unit = ap device_of meets.unit;
        verdict = meets.verdict;
        bytes = ap (take r.len) meets.buffer ∙ take_at bytes (drop (length bytes) b) r.len (sym meets.len);
        rest = ap (drop r.len) meets.buffer ∙ drop_at bytes (drop (length bytes) b) r.len (sym meets.len) ∙ ap (λ (k : ℕ). drop k b) (sym meets.len);
      }
