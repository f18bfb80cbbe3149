-- A step over the small state with one store, written back to the unit, is what the call in place promises.
-- Assumes nothing.
use Prim.Native.Nat.{ℕ}
use mathlib.Core.Path.{◌≡◌, refl, ap}
use mathlib.Core.List.{List}
use lib.ListN.{length, drop}
use lib.Seq.{paste}
use Rattle.rules.specs.declared.refusal.Refusal.TheVariants.{Unsound}
use Rattle.rules.specs.Choice.{pick}
use Rattle.rules.specs.Answers.{UNSOUND, only}
use Rattle.port.specs.Parts.{out_of}
use Rattle.port.specs.Answer.{refuse}
use Rattle.port.specs.Out.{plain, out_plan}
use Rattle.port.specs.In.{poll}
use Rattle.port.specs.Device.{is_sound, with_state, unsent_of}
use Rattle.port.specs.Given.{Hands}
use Rattle.port.specs.Calls.{bulk_in}
use Rattle.port.specs.Step.{in_poll, out_packet, quiet, quietly, soundly, step}
use Rattle.port.specs.declared.types.Plan.{Plan}
use Rattle.port.specs.declared.types.Given.{Given}
use Rattle.unit.specs.Promise.{device_of, unit_of}
use Rattle.unit.specs.declared.types.Unit.{Unit}
use Rattle.unit.specs.declared.types.Done.{Done}
use Rattle.unit.specs.declared.types.Told.{Told}
use Rattle.unit.proofs.Steps.{after_plan, stepped, handed}
use Rattle.unit_inplace.specs.InPlace.{Alters, Sends}
use Rattle.unit_inplace.specs.declared.types.Sent.{Sent}

abbrev pub sent_of : Given → Sent
sent_of r = record { verdict = r.verdict; len = r.len }

pub altered : (u : Unit) (s : List ℕ) (plan : Plan) (m : List ℕ) → plan ≡ pick (is_sound (device_of u)) (out_plan (device_of u).state s) (plain (device_of u).state (only UNSOUND))
    → m ≡ paste u.message (out_of (device_of u).state).message.held (drop plan.from s) plan.count → Alters (step (device_of u) (out_packet s)) (after_plan u plan m) plan.verdict
altered u s plan m e f =
    let d = stepped u s plan m e f in
    record { unit = ap (λ (z : Done). z.unit) d; verdict = ap (λ (z : Done). z.verdict) d }

pub polled : (u : Unit) (b b' : List ℕ) (r : Given)
    → Hands (pick (is_sound (device_of u)) (poll (device_of u).state (unsent_of (device_of u)) (length b)) (refuse (device_of u).state Unsound)) r b b'
    → Sends (step (device_of u) (quiet (in_poll (length b)))) b b' (unit_of (with_state (device_of u) r.state)) (sent_of r)
unfolding soundly quietly bulk_in
polled u b b' r h =
    let t = handed (device_of u) (quiet (in_poll (length b))) (poll (device_of u).state (unsent_of (device_of u)) (length b)) refl r b b' h in
    record { unit = ap (λ (z : Told). z.unit) t.told; verdict = ap (λ (z : Told). z.verdict) t.told; len = ap (λ (z : Told). z.len) t.told; buffer = t.buffer }
