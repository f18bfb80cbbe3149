-- The laws of the port, over all units and calls. A unit that steps otherwise is held to the same statements: they take the step as a parameter.
-- Assumes nothing.
use Rattle.std.specs.Prelude.{ℕ, ◌≤◌, ◌≡◌, true, false, List, [], ◌∷◌, ◌⊎◌, length, replicate}
use Rattle.rules.specs.Answers.{DONE, UNSOUND, WRONG_SIZE, SUCCESS, Leaves, as_ruled, unchanged, out_halted, leaves, done}
use Rattle.rules.specs.Flags.{OFF}
use Rattle.wire.specs.Setup.{CONTROL}
use Rattle.wire.specs.When.{at}
use Rattle.port.specs.Parts.{STORE, FULL_SPEED, is_size, is_open_out, unfinished, out_of, in_of, packet_size, is_configured, is_clear, halted_out}
use Rattle.port.specs.Answer.{Answer, numbered}
use Rattle.port.specs.declared.types.Setting.{Setting}
use Rattle.port.specs.Device.{Device, Result, is_sound, with_state, made, power_on}
use Rattle.port.specs.Calls.{refused}
use Rattle.port.specs.Step.{in_poll, Call, bus_reset, quiet, setup_of, Stepping, after}
use Rattle.port.specs.Live.{live}
use Rattle.port.specs.Survivors.{survivors}
use Rattle.port.specs.Breaks.{is_break}
use Rattle.port.specs.Lists.{Kind, kind_of, own, own_list}

-- n is one of the list
abbrev pub OneOf : ℕ → List ℕ → Type 0
OneOf n [] = ⊥
OneOf n (m ∷ ms) = (n ≡ m) ⊎ OneOf n ms

-- the arrays of a unit have their length: known of every unit that code holds
pub record Stored (u : Device) : Type 0 where
  pub message : length u.message ≡ STORE
  pub reply : length u.reply ≡ STORE

-- ** soundness: "Power-on is sound, every call keeps it so, and only an unsound unit is answered 1"

abbrev pub PowerOnSound : Type 0
PowerOnSound = (setting : Setting) → is_sound (power_on setting).unit ≡ true

-- power-on answers 0, or 3 with "an unconfigured unit of size 64"
abbrev pub PowerOnAnswers : Type 0
PowerOnAnswers = (setting : Setting)
    → ((is_size setting.packet ≡ true) × (power_on setting ≡ record { unit = made setting OFF; answer = numbered DONE }))
    ⊎ ((is_size setting.packet ≡ false) × (power_on setting ≡ record { unit = made (record { packet = FULL_SPEED }) OFF; answer = numbered WRONG_SIZE }))

abbrev pub KeepsSound : Stepping → Type 0
KeepsSound does = (u : Device) (c : Call) → is_sound u ≡ true → is_sound (does u c).unit ≡ true

abbrev pub KeepsStored : Stepping → Type 0
KeepsStored does = (u : Device) (c : Call) → Stored u → Stored (does u c).unit

abbrev pub UnsoundRefused : Stepping → Type 0
UnsoundRefused does = (u : Device) (c : Call) → is_sound u ≡ false → does u c ≡ refused u UNSOUND

abbrev pub OnlyUnsound : Stepping → Type 0
OnlyUnsound does = (u : Device) (c : Call) → is_sound u ≡ true → (does u c).answer.verdict.number ≡ UNSOUND → ⊥

-- ** numbers

abbrev pub OwnNumbers : Stepping → Type 0
OwnNumbers does = (u : Device) (c : Call) → OneOf (does u c).answer.verdict.number (DONE ∷ own_list c)

-- each of them is answered: but for 1, by a unit that calls from power-on have made
pub record Reachable (does : Stepping) (u : Device) : Type 0 where
  pub setting : Setting
  pub calls : List Call
  pub made : after does (power_on setting).unit calls ≡ u

pub record Answered (does : Stepping) (k : Kind) (n : ℕ) : Type 0 where
  pub unit : Device
  pub call : Call
  pub kind : kind_of call ≡ k
  pub gives : (does unit call).answer.verdict.number ≡ n
  pub reached : (n ≡ UNSOUND) ⊎ Reachable does unit

abbrev pub EachAnswered : Stepping → Type 0
EachAnswered does = (k : Kind) (n : ℕ) → OneOf n (DONE ∷ own k) → Answered does k n

-- ** what a refusal leaves: the whole unit, no byte of a lent buffer, nothing told

abbrev pub LeftAs : Leaves → Device → Result → Type 0
LeftAs as_ruled u r = ⊥
LeftAs unchanged u r = r ≡ refused u r.answer.verdict.number
LeftAs out_halted u r = r ≡ refused (with_state u (halted_out u.state)) r.answer.verdict.number

abbrev pub LeavesTable : Stepping → Type 0
LeavesTable does = (u : Device) (c : Call) → ((does u c).answer.verdict.number ≡ DONE → ⊥) → LeftAs (leaves (does u c).answer.verdict.number) u (does u c)

-- ** what counts

abbrev pub LiveAgrees : Stepping → Type 0
LiveAgrees does = (u v : Device) (c : Call) → Stored u → Stored v → is_sound u ≡ true → is_sound v ≡ true → live u ≡ live v
    → ((does u c).answer ≡ (does v c).answer) × (live (does u c).unit ≡ live (does v c).unit)

-- ** a break drops what is open and unfinished, at once

abbrev pub BreakDrops : Stepping → Type 0
BreakDrops does = (u : Device) (c : Call) → is_sound u ≡ true → is_break c (does u c).answer ≡ true
    → (is_open_out (out_of (does u c).unit.state) ≡ false) × (unfinished (out_of (does u c).unit.state) ≡ false)

-- ** a clear is reached

-- the setup packets, as they go over the wire
abbrev pub INITIATE_CLEAR : List ℕ
INITIATE_CLEAR = 0xA1 ∷ 5 ∷ 0 ∷ 0 ∷ 0 ∷ 0 ∷ 1 ∷ 0 ∷ []

abbrev pub CHECK_CLEAR_STATUS : List ℕ
CHECK_CLEAR_STATUS = 0xA1 ∷ 6 ∷ 0 ∷ 0 ∷ 0 ∷ 0 ∷ 2 ∷ 0 ∷ []

abbrev pub CLEAR_FEATURE_IN : List ℕ
CLEAR_FEATURE_IN = 0x02 ∷ 1 ∷ 0 ∷ 0 ∷ 0x82 ∷ 0 ∷ 0 ∷ 0 ∷ []

-- SUCCESS: answered 0, with a first byte of 01
pub record Succeeds (a : Answer) : Type 0 where
  pub number : a.verdict.number ≡ 0
  pub status : at a.bytes 0 ≡ 0x01

-- the answer of CHECK_CLEAR_STATUS, byte by byte, that has it
abbrev pub success : Answer
success = record { verdict = done; bytes = SUCCESS ∷ 0 ∷ [] }

-- "SUCCESS is reached after at most one poll into a large enough buffer"
abbrev pub Reached : Stepping → Device → ℕ → ℕ → Type 0
Reached does u control room =
    ((does u (setup_of CHECK_CLEAR_STATUS control)).answer ≡ success)
    ⊎ ((does (does u (quiet (in_poll room))).unit (setup_of CHECK_CLEAR_STATUS control)).answer ≡ success)

-- a unit that serves setup packets into a control buffer of this length
pub record Attends (u : Device) (control : ℕ) : Type 0 where
  pub sound : is_sound u ≡ true
  pub configured : is_configured u.state ≡ true
  pub control_fits : CONTROL ≤ control

pub record Ready (u : Device) (control room : ℕ) : Type 0 where
  pub attends : Attends u control
  pub running : (in_of u.state).halted ≡ OFF
  pub room_fits : packet_size u.state ≤ room

-- "With Bulk-IN not halted": after INITIATE_CLEAR, and where a clear has already begun
abbrev pub ClearReached : Stepping → Type 0
ClearReached does = (u : Device) (control room : ℕ) → Ready u control room
    → Reached does (does u (setup_of INITIATE_CLEAR control)).unit control room × (is_clear u.state.split ≡ true → Reached does u control room)

-- so behind any one poll CHECK answers SUCCESS, whether that poll brought the owed packet or there was none
abbrev pub ClearReachedPolled : Stepping → Type 0
ClearReachedPolled does = (u : Device) (control room : ℕ) → Ready u control room
    → (does (does (does u (setup_of INITIATE_CLEAR control)).unit (quiet (in_poll room))).unit (setup_of CHECK_CLEAR_STATUS control)).answer ≡ success

-- halted or not, with CLEAR_FEATURE on 0x82, which ends that halt, and no poll
abbrev pub ReachedByFeature : Stepping → Device → ℕ → Type 0
ReachedByFeature does u control = (does (does u (setup_of CLEAR_FEATURE_IN control)).unit (setup_of CHECK_CLEAR_STATUS control)).answer ≡ success

abbrev pub ClearReachedHalted : Stepping → Type 0
ClearReachedHalted does = (u : Device) (control : ℕ) → Attends u control
    → ReachedByFeature does (does u (setup_of INITIATE_CLEAR control)).unit control × (is_clear u.state.split ≡ true → ReachedByFeature does u control)

-- ** "The four things that survive" a clear, and the three of 02's request 1: none of its three calls moves them, on any unit, Bulk-IN halted or not

abbrev pub Survive : Stepping → Type 0
Survive does = (u : Device) (control room : ℕ)
    → (survivors (does u (setup_of INITIATE_CLEAR control)).unit.state ≡ survivors u.state)
    × (survivors (does u (quiet (in_poll room))).unit.state ≡ survivors u.state)
    × (survivors (does u (setup_of CHECK_CLEAR_STATUS control)).unit.state ≡ survivors u.state)

-- ** SET_CONFIGURATION and reset leave "all but P as at power-on": the stores too, byte by byte

abbrev pub Zeroed : Device → Type 0
Zeroed u = (u.message ≡ replicate 1024 0) × (u.reply ≡ replicate 1024 0)

abbrev pub SET_CONFIGURATION : ℕ → List ℕ
SET_CONFIGURATION value = 0x00 ∷ 9 ∷ value ∷ 0 ∷ 0 ∷ 0 ∷ 0 ∷ 0 ∷ []

pub record Zeroes (does : Stepping) : Type 0 where
  pub power_on_lem : (setting : Setting) → Zeroed (power_on setting).unit
  pub configured : (u : Device) (value control : ℕ) → (does u (setup_of (SET_CONFIGURATION value) control)).answer.verdict.number ≡ DONE
      → Zeroed (does u (setup_of (SET_CONFIGURATION value) control)).unit
  pub reset : (u : Device) → (does u bus_reset).answer.verdict.number ≡ DONE → Zeroed (does u bus_reset).unit
