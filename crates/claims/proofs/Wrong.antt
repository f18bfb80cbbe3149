-- Whole wrong ports, each refuted by the claim that is there for it.
-- Assumes nothing.
use Prim.Native.Nat.{ℕ}
use mathlib.Core.Path.{◌≡◌, refl, ap, subst}
use mathlib.Core.Bool.{true, false, true≢false}
use mathlib.Core.List.{List, [], ◌∷◌, ◌++◌}
use mathlib.Core.Logic.{⊎_elim}
use native.Mathlib.Omega.{arith}
use lib.ListN.{length, get_or, replicate, length-replicate}
use Rattle.rules.specs.Choice.{◌and◌}
use Rattle.rules.specs.Answers.{done}
use Rattle.rules.specs.Flags.{ON}
use Rattle.port.specs.Parts.{STORE}
use Rattle.port.specs.Answer.{Answer}
use Rattle.port.specs.Alignment.{AlignmentIgnored}
use Rattle.port.specs.Device.{Device, Result, made, zeroed, power_on}
use Rattle.port.specs.Step.{in_poll, Call, out_packet, take_into, bus_reset, quiet, setup_of, Stepping}
use Rattle.port.specs.Idle.{constant, refusing, idling, doing_nothing, pretending}
use Rattle.port.specs.Laws.{Stored, SET_CONFIGURATION}
use Rattle.port.specs.Trace.{Event, trace}
use Rattle.port.specs.When.{RuleForEvery}
use Rattle.port.proofs.Opened.{computed}
use Rattle.claims.specs.Command.{Piece, Sendable, cut_up, sending}
use Rattle.claims.specs.Arrival.{Waiting}
use Rattle.claims.specs.Handed.{AllBrought}
use Rattle.claims.specs.Wrong.{taking_short, taking_surplus, minding, keeping, triggering_on_refusals, giving_halves}
use Rattle.claims.specs.Claims.{NoHalfCommandEver, ActsOnlyOnEver, WholeCommand}
use Rattle.claims.proofs.Bytes.{small_calls, calls_octets}
use Rattle.claims.proofs.Numbers.{skip}
use Rattle.claims.proofs.Parse.{searched}
use Rattle.claims.proofs.Teeth.{handed, bad, opened}

-- ** by the messages that are handed over

-- calls on a unit of size 64 that was just powered on
abbrev played : Stepping → List Call → List Event
played does calls = trace does (power_on (record { packet = 64 })).unit calls

abbrev configure : Call
configure = setup_of (SET_CONFIGURATION 1) 24

abbrev told : Call → List ℕ → Event
told c bytes = record { call = c; answer = record { verdict = done; bytes = bytes } }

-- a run that hands over `m`, which no command brought
module _ (does : Stepping) (claim : NoHalfCommandEver does) (calls : List Call) (small : small_calls calls ≡ true) where
  never : (es : List Event) (m : List ℕ) → played does calls ≡ es ++ (handed m ∷ []) → searched 64 es m ≡ false → ⊥
  unfolding computed
  never es m e s = bad es m s (subst (λ (l : List Event). AllBrought 64 l) e (claim (record { packet = 64 }) calls (calls_octets calls small)))

-- a header of tag 1 with EOM, and what follows it
abbrev first : ℕ → List ℕ → Call
first size behind = out_packet ((1 ∷ 1 ∷ 254 ∷ 0 ∷ size ∷ 0 ∷ 0 ∷ 0 ∷ 1 ∷ 0 ∷ 0 ∷ 0 ∷ []) ++ behind)

-- 60 bytes, of which the last 8 come in two packets
pub no_taking_short : NoHalfCommandEver taking_short → ⊥
unfolding opened computed trace taking_short
no_taking_short claim =
    never taking_short claim (configure ∷ first 60 (replicate 52 7) ∷ out_packet (replicate 4 7) ∷ out_packet (replicate 4 7) ∷ take_into 1024 ∷ []) refl
    (told configure [] ∷ told (first 60 (replicate 52 7)) [] ∷ told (out_packet (replicate 4 7)) [] ∷ told (out_packet (replicate 4 7)) [] ∷ [])
    (replicate 60 7) refl refl

-- the incident: a TransferSize of 7 before ten bytes
pub no_taking_surplus : NoHalfCommandEver taking_surplus → ⊥
unfolding opened computed trace taking_surplus
no_taking_surplus claim =
    never taking_surplus claim (configure ∷ first 7 (replicate 7 8 ++ (9 ∷ 9 ∷ 9 ∷ 0 ∷ 0 ∷ [])) ∷ take_into 1024 ∷ []) refl
    (told configure [] ∷ told (first 7 (replicate 7 8 ++ (9 ∷ 9 ∷ 9 ∷ 0 ∷ 0 ∷ []))) [] ∷ []) (replicate 7 8) refl refl

-- "One that works in the first call and then pretends": it hands over nothing, for a message
pub no_pretending : NoHalfCommandEver pretending → ⊥
unfolding opened computed trace pretending
no_pretending claim =
    never pretending claim (configure ∷ first 4 (7 ∷ 7 ∷ 7 ∷ 7 ∷ []) ∷ take_into 1024 ∷ []) refl
    (told configure [] ∷ told (first 4 (7 ∷ 7 ∷ 7 ∷ 7 ∷ [])) [] ∷ []) [] refl refl

-- ** by what the thermostat is told, and what a refusal gives

-- an unconfigured unit refuses a poll with 2
pub no_triggering_on_refusals : ActsOnlyOnEver triggering_on_refusals → ⊥
unfolding computed trace triggering_on_refusals
no_triggering_on_refusals claim =
    let a = (claim (record { packet = 64 }) (quiet (in_poll 64) ∷ []) (tt, tt)).0 in
    let e : ◌≡◌ {A = ℕ} 1 0 = (a.refused (λ (z : ◌≡◌ {A = ℕ} 2 0). omega arith)).1 in
    omega arith

-- `SETP` without EOM, and then a take, which is 16
pub no_giving_halves : ActsOnlyOnEver giving_halves → ⊥
unfolding opened computed trace giving_halves
no_giving_halves claim =
    let calls : List Call = configure ∷ out_packet (1 ∷ 1 ∷ 254 ∷ 0 ∷ 4 ∷ 0 ∷ 0 ∷ 0 ∷ 0 ∷ 0 ∷ 0 ∷ 0 ∷ 0x53 ∷ 0x45 ∷ 0x54 ∷ 0x50 ∷ []) ∷ take_into 1024 ∷ [] in
    let a = (claim (record { packet = 64 }) calls (calls_octets calls refl)).1.1.0 in
    let e : ◌≡◌ {A = ℕ} 4 0 = ap length (a.refused (λ (z : ◌≡◌ {A = ℕ} 16 0). omega arith)).0 in
    omega arith

-- ** by the rules: one number for everything, whatever it is

abbrev powered : Device
powered = (power_on (record { packet = 64 })).unit

-- a sound unit answers a reset 0, and an unconfigured one a poll 2
pub no_constant_number : (a : Answer) → RuleForEvery (constant a) → ⊥
unfolding computed constant
no_constant_number a claim =
    let reset : a.verdict.number ≡ 0 = skip (claim powered bus_reset) true≢false in
    let poll = skip (claim powered (quiet (in_poll 64))) true≢false in
    ⊎_elim (λ k. let e = k.0 in omega arith) (λ k. k.0 refl) poll

-- ** by a command that is to arrive: "A" and "B", of one byte, with old bytes behind it, to a unit just configured

abbrev configured : Device
configured = made (record { packet = 64 }) ON

abbrev letter : ℕ → List Piece
letter b = record { empties = 0; tag = 1; bytes = b ∷ []; alignment = 9 ∷ 9 ∷ 9 ∷ [] } ∷ []

abbrev packet : ℕ → List ℕ
packet b = 1 ∷ 1 ∷ 254 ∷ 0 ∷ 1 ∷ 0 ∷ 0 ∷ 0 ∷ 1 ∷ 0 ∷ 0 ∷ 0 ∷ b ∷ 9 ∷ 9 ∷ 9 ∷ []

stored : Stored configured
unfolding made zeroed
stored = record { message = length-replicate {A = ℕ} STORE 0; reply = length-replicate {A = ℕ} STORE 0 }

waiting : Waiting configured
unfolding computed
waiting = record { sound = refl; configured = refl; running = refl; finished = refl; closed = refl }

sendable : (b : ℕ) → Sendable (letter b)
sendable b = record { good = (omega arith, omega arith, omega arith, refl, tt); some = omega arith; fits = omega arith }

module _ (does : Stepping) (claim : WholeCommand does) (b : ℕ) (byte : small_calls (out_packet (packet b) ∷ []) ≡ true) where
  arrived : ((does configured (out_packet (packet b))).answer.verdict.number ≡ 0)
      × ((does (does configured (out_packet (packet b))).unit (take_into 1)).answer ≡ record { verdict = done; bytes = b ∷ [] })
  unfolding computed trace sending cut_up
  arrived =
      let a = claim configured (letter b) (out_packet (packet b) ∷ take_into 1 ∷ []) stored waiting (sendable b) ((calls_octets (out_packet (packet b) ∷ []) byte).0, (tt, tt)) refl in
      (a.0, ⊎_elim (λ k. let l = k.0 in absurd (omega arith)) (λ k. k.1) (a.1 tt).0)

abbrev number_of : Answer → ℕ
number_of a = a.verdict.number

abbrev first_of : Answer → ℕ
first_of a = get_or a.bytes 0 0

-- one that always says wait, or anything else: the packet is to be answered 0
pub no_refusing : (n : ℕ) → (n ≡ 0 → ⊥) → WholeCommand (refusing n) → ⊥
unfolding constant ◌and◌
no_refusing n k claim = k (arrived (refusing n) claim 65 refl).0

pub no_waiting : WholeCommand (refusing 5) → ⊥
no_waiting = no_refusing 5 (λ e. omega arith)

-- one answer for every command
pub no_constant_answer : (a : Answer) → WholeCommand (constant a) → ⊥
unfolding constant ◌and◌
no_constant_answer a claim =
    let one : first_of a ≡ 65 = ap first_of (arrived (constant a) claim 65 refl).1 in
    let other : first_of a ≡ 66 = ap first_of (arrived (constant a) claim 66 refl).1 in
    omega arith

-- nothing to take
pub no_doing_nothing : WholeCommand doing_nothing → ⊥
unfolding doing_nothing computed
no_doing_nothing claim = let e : ◌≡◌ {A = ℕ} 16 0 = ap number_of (arrived doing_nothing claim 65 refl).1 in omega arith

pub no_idling : WholeCommand idling → ⊥
unfolding idling computed
no_idling claim = let e : ◌≡◌ {A = ℕ} 16 0 = ap number_of (arrived idling claim 65 refl).1 in omega arith

-- the old bytes are no fault
pub no_minding : WholeCommand minding → ⊥
unfolding minding computed
no_minding claim = let e : ◌≡◌ {A = ℕ} 14 0 = (arrived minding claim 65 refl).0 in omega arith

-- ** by two packets that differ in an alignment byte alone

-- the same, with zeros behind it
abbrev zeros_behind : List ℕ
zeros_behind = 1 ∷ 1 ∷ 254 ∷ 0 ∷ 1 ∷ 0 ∷ 0 ∷ 0 ∷ 1 ∷ 0 ∷ 0 ∷ 0 ∷ 65 ∷ 0 ∷ 0 ∷ 0 ∷ []

pub no_keeping : AlignmentIgnored keeping → ⊥
unfolding keeping computed
no_keeping claim =
    let e : ◌≡◌ {A = ℕ} 9 0 = ap (λ (r : Result). get_or r.unit.message 1 0) (claim configured (packet 65) zeros_behind (record { long = refl; more = λ n. absurd (n refl); header = λ _. refl })) in
    omega arith
