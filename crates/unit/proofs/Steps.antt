-- A step over the state, soundness asked first, is the definitions' step on the whole unit, whoever carries it out.
-- Assumes nothing.
use Prim.Native.Nat.{ℕ, ◌≤◌}
use mathlib.Core.Path.{◌≡◌, refl, sym, ap, ◌∙◌}
use mathlib.Core.Bool.{Bool, true, false}
use mathlib.Core.List.{List}
use native.Mathlib.Omega.{arith}
use lib.ListN.{length, drop}
use lib.Seq.{paste}
use Rattle.rules.specs.Choice.{pick}
use Rattle.rules.specs.Answers.{DONE, UNSOUND, WRONG_SIZE, only, done}
use Rattle.rules.proofs.Choice.{pick_map, pick_true, pick_false}
use Rattle.wire.specs.Bytes.{into}
use Rattle.rules.specs.Flags.{OFF}
use Rattle.wire.specs.Setup.{CONTROL}
use Rattle.wire.specs.declared.types.Row.{Row}
use Rattle.port.specs.Parts.{FULL_SPEED, is_size, out_of}
use Rattle.port.specs.Answer.{Said, numbered, refuse}
use Rattle.port.specs.Out.{plain, out_plan}
use Rattle.port.specs.Rows.{answer_row, reacted}
use Rattle.port.specs.Device.{Device, Result, is_sound, with_state, made, power_on}
use Rattle.port.specs.Given.{given_of, Hands}
use Rattle.port.specs.Calls.{refused, said, with_message, bulk_out, setup_outcome, renewed, answered, setup, offer_plan, with_reply, offer, reset_by_bus}
use Rattle.port.specs.Step.{offer_reply, Call, out_packet, bus_reset, quiet, setup_of, quietly, soundly, step}
use Rattle.port.specs.declared.types.Setting.{Setting}
use Rattle.port.specs.declared.types.Plan.{Plan}
use Rattle.port.specs.declared.types.Given.{Given}
use Rattle.port.specs.Answer.{SetupOutcome}
use Rattle.std.specs.Prelude.{Ok, Err}
use Rattle.rules.specs.Answers.{number_of, refusing}
use Rattle.rules.specs.declared.refusal.Refusal.{Refusal}
use Rattle.rules.specs.declared.refusal.Refusal.TheVariants.{Unsound}
use Rattle.wire.specs.declared.types.Setup.TheVariants.{Configure, Asks}
use Rattle.port.proofs.Calls.{unplanned, unstored}
use Rattle.setup_step.proofs.Serving.{answers_roomy}
use Rattle.unit.specs.Promise.{device_of, unit_of, done_of, told_of, Tells}
use Rattle.unit.specs.declared.types.Unit.{Unit}
use Rattle.unit.specs.declared.types.Done.{Done}
use Rattle.unit.specs.declared.types.Told.{Told}

-- a call whose two ways are known: what a sound unit does, and the refusal of another
guarded : {A : Type 0} (f : A → Result) (d : Device) (c : Call) (a b : A) → soundly d c ≡ f a → f b ≡ refused d UNSOUND → f (pick (is_sound d) a b) ≡ step d c
unfolding step
guarded f d c a b e g = sym (pick_map f (is_sound d) a b) ∙ (λ i. pick (is_sound d) (sym e i) (g i))

-- ** what is said over the state, with no store touched

module _ (d : Device) (c : Call) (x : Said) (does : soundly d c ≡ said d x) (r : Given) where
  said_step : said d (pick (is_sound d) x (refuse d.state Unsound)) ≡ step d c
  said_step = guarded (said d) d c x (refuse d.state Unsound) does refl

  pub moved : r ≡ given_of (pick (is_sound d) x (refuse d.state Unsound)) → ◌≡◌ {A = Done} (record { unit = unit_of (with_state d r.state); verdict = r.verdict }) (done_of (step d c))
  moved e = ap (λ (g : Given). record { unit = unit_of (with_state d g.state); verdict = g.verdict }) e ∙ ap done_of said_step

  pub handed : (b b' : List ℕ) → Hands (pick (is_sound d) x (refuse d.state Unsound)) r b b'
      → Tells (step d c) b b' (record { unit = unit_of (with_state d r.state); verdict = r.verdict; len = r.len })
  handed b b' h = record {
    told = ap (λ (g : Given). record { unit = unit_of (with_state d g.state); verdict = g.verdict; len = g.len }) h.0 ∙ ap told_of said_step;
    buffer = h.1 ∙ ap (λ (q : Result). into q.answer.bytes b) said_step;
  }

-- ** a plan, and the store behind it

-- the unit that a plan and the message store behind it make
abbrev pub after_plan : Unit → Plan → List ℕ → Unit
after_plan u plan m = record { message = m; reply = u.reply; small = plan.state.small; split = plan.state.split; remote = plan.state.remote }

pub stepped : (u : Unit) (s : List ℕ) (plan : Plan) (m : List ℕ) → plan ≡ pick (is_sound (device_of u)) (out_plan (device_of u).state s) (plain (device_of u).state (only UNSOUND))
    → m ≡ paste u.message (out_of (device_of u).state).message.held (drop plan.from s) plan.count
    → ◌≡◌ {A = Done} (record { unit = after_plan u plan m; verdict = plan.verdict }) (done_of (step (device_of u) (out_packet s)))
unfolding soundly bulk_out
stepped u s plan m e f =
    ap (λ (n : List ℕ). record { unit = after_plan u plan n; verdict = plan.verdict }) f
    ∙ ap (λ (p : Plan). done_of (with_message (device_of u) s p)) e
    ∙ ap done_of (guarded (with_message (device_of u) s) (device_of u) (out_packet s) _ _ refl (unplanned (device_of u) s UNSOUND))

-- an offer, by its plan and the reply store behind it
pub stored : (u : Unit) (bytes : List ℕ) (plan : Plan) (m : List ℕ) → plan ≡ pick (is_sound (device_of u)) (offer_plan (device_of u).state (length bytes)) (plain (device_of u).state (only UNSOUND))
    → m ≡ paste u.reply 0 (drop plan.from bytes) plan.count
    → ◌≡◌ {A = Done}
    (record { unit = record { message = u.message; reply = m; small = plan.state.small; split = plan.state.split; remote = plan.state.remote }; verdict = plan.verdict })
    (done_of (step (device_of u) (quiet (offer_reply bytes))))
unfolding soundly quietly offer
stored u bytes plan m e f =
    ap (λ (n : List ℕ). record { unit = record { message = u.message; reply = n; small = plan.state.small; split = plan.state.split; remote = plan.state.remote }; verdict = plan.verdict }) f
    ∙ ap (λ (p : Plan). done_of (with_reply (device_of u) bytes p)) e
    ∙ ap done_of (guarded (with_reply (device_of u) bytes) (device_of u) (quiet (offer_reply bytes)) _ _ refl (unstored (device_of u) bytes UNSOUND))

-- ** a setup packet, by what it comes to

module _ (d : Device) (s b : List ℕ) (x : SetupOutcome) (is : x ≡ pick (is_sound d) (setup_outcome d.state s (length b)) (Err Unsound)) where
  setup_step : answered d x ≡ step d (setup_of s (length b))
  unfolding soundly setup answered
  setup_step = ap (answered d) is ∙ guarded (answered d) d (setup_of s (length b)) _ _ refl refl

  told_by : (q : Result) (b' : List ℕ) (t : Told) → q ≡ answered d x → Tells q b b' t → Tells (step d (setup_of s (length b))) b b' t
  told_by q b' t e h = record { told = h.told ∙ ap told_of (e ∙ setup_step); buffer = h.buffer ∙ ap (λ (r : Result). into r.answer.bytes b) (e ∙ setup_step) }

  pub setup_denied : (k : Refusal) → x ≡ Err k → Tells (step d (setup_of s (length b))) b b (record { unit = unit_of d; verdict = refusing k; len = 0 })
  unfolding answered
  setup_denied k e = told_by (refused d (number_of k)) b _ (sym (ap (answered d) e)) (record { told = refl; buffer = refl })

  pub setup_renewed : (value : ℕ) → x ≡ Ok (Configure value) → Tells (step d (setup_of s (length b))) b b (record { unit = unit_of (made d.state.small.port.setting value); verdict = done; len = 0 })
  unfolding answered
  setup_renewed value e = told_by (renewed d value) b _ (sym (ap (answered d) e)) (record { told = refl; buffer = refl })

  pub setup_answered : (row : Row) → x ≡ Ok (Asks row) → (b' : List ℕ) (r : Given) → Hands (reacted d.state (answer_row d.state row)) r b b'
      → Tells (step d (setup_of s (length b))) b b' (record { unit = unit_of (with_state d r.state); verdict = r.verdict; len = r.len })
  unfolding answered
  setup_answered row e b' r h =
      told_by (said d (reacted d.state (answer_row d.state row))) b' _ (sym (ap (answered d) e))
      (record { told = ap (λ (g : Given). record { unit = unit_of (with_state d g.state); verdict = g.verdict; len = g.len }) h.0; buffer = h.1 })

  pub setup_roomy : (row : Row) → x ≡ Ok (Asks row) → CONTROL ≤ length b
  unfolding pick
  setup_roomy row e = by (is_sound d) (sym e ∙ is)
    where
      never : Ok (Asks row) ≡ Err Unsound → ⊥
      never f = let z : ◌≡◌ {A = ℕ} 0 1 = cc in omega arith

      by : (t : Bool) → Ok (Asks row) ≡ pick t (setup_outcome d.state s (length b)) (Err Unsound) → CONTROL ≤ length b
      by true f = answers_roomy d.state s (length b) row f
      by false f = absurd (never f)

-- ** power-on and a bus reset

module _ (setting : Setting) where
  pub powered : is_size setting.packet ≡ true → ◌≡◌ {A = Done} (record { unit = unit_of (made setting OFF); verdict = done }) (done_of (power_on setting))
  unfolding power_on
  powered e = ap done_of (pick_true (record { unit = made setting OFF; answer = numbered DONE }) _ _ _ e refl)

  pub unpowered : is_size setting.packet ≡ false → ◌≡◌ {A = Done} (record { unit = unit_of (made (record { packet = FULL_SPEED }) OFF); verdict = only WRONG_SIZE }) (done_of (power_on setting))
  unfolding power_on
  unpowered e = ap done_of (pick_false (record { unit = made (record { packet = FULL_SPEED }) OFF; answer = numbered WRONG_SIZE }) _ _ _ e refl)

module _ (d : Device) where
  pub reset_done : is_sound d ≡ true → ◌≡◌ {A = Done} (record { unit = unit_of (made d.state.small.port.setting OFF); verdict = done }) (done_of (step d bus_reset))
  unfolding step soundly reset_by_bus
  reset_done e = ap done_of (pick_true (renewed d OFF) _ _ _ e refl)

  pub reset_refused : is_sound d ≡ false → ◌≡◌ {A = Done} (record { unit = unit_of d; verdict = only UNSOUND }) (done_of (step d bus_reset))
  unfolding step
  reset_refused e = ap done_of (pick_false (refused d UNSOUND) _ _ _ e refl)
