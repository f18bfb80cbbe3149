-- The auditor's questions, and what is claimed of the port in answer. Every statement takes the step as a parameter: `does` is any port, and the
-- proofs are about ours. Each says, where it stands, which wrong port it is there to shut out (proofs/Teeth.antt, proofs/Wrong.antt).
-- Assumes nothing.
use Rattle.std.specs.Prelude.{ℕ, ◌≡◌, true, List, [], ◌∷◌, ◌⊎◌}
use Rattle.rules.specs.Answers.{done}
use Rattle.port.specs.Parts.{packet_size, out_of}
use Rattle.port.specs.Device.{Device, is_sound, power_on}
use Rattle.port.specs.Step.{Call, setup_of, Stepping, step, run, after}
use Rattle.port.specs.Trace.{trace, AllInOctets}
use Rattle.port.specs.When.{RuleForEvery}
use Rattle.port.specs.Alignment.{AlignmentIgnored}
use Rattle.port.specs.Reply.{RepliesRead}
use Rattle.port.specs.Service.{StatusTold}
use Rattle.port.specs.Live.{live}
use Rattle.port.specs.Survivors.{survivors}
use Rattle.port.specs.Laws.{Stored, CHECK_CLEAR_STATUS, Succeeds, ClearReached, ClearReachedPolled, ClearReachedHalted, Survive}
use Rattle.port.specs.declared.types.Setting.{Setting}
use Rattle.claims.specs.Command.{Piece, command, Sendable, sending, Others}
use Rattle.claims.specs.Wire.{accepted_since}
use Rattle.claims.specs.Handed.{AllBrought, AllBroughtFrom, begun}
use Rattle.claims.specs.Acted.{Acting}
use Rattle.claims.specs.Arrival.{older, coming, Arrives, NoBreaks, Waiting, stage_of}
use Rattle.claims.specs.Replies.{ReadBack, ReplyArrives, WholeReply}
use Rattle.claims.specs.Service.{NoRequestLost, StatusComes, NoneMadeUp}
use Rattle.claims.specs.Fresh.{CLEAR_FEATURE_OUT, GET_STATUS_OUT, fresh_unit}

-- ** "Can a half-sent command ever be acted on?" Whenever a message is handed over, the packets that the port accepted for it are exactly those of one
-- command as a host sends it, from the first transfer after the message or break before, with no break among them; and the message is its data.
-- Shuts out: a port that takes a short packet in the middle, or surplus bytes, for a whole transfer

abbrev pub NoHalfCommandEver : Stepping → Type 0
NoHalfCommandEver does = (setting : Setting) (calls : List Call) → AllInOctets calls
    → let u = (power_on setting).unit in AllBrought (packet_size u.state) (trace does u calls)

-- from any sound unit: what it holds at the start counts as come
abbrev pub NoHalfCommand : Stepping → Type 0
NoHalfCommand does = (u : Device) (calls : List Call) → Stored u → is_sound u ≡ true → AllInOctets calls
    → AllBroughtFrom (packet_size u.state) (begun u) (trace does u calls)

-- and nothing else is acted on. Shuts out: a port that triggers on a refusal, one that gives the half that it holds with 16
abbrev pub ActsOnlyOnEver : Stepping → Type 0
ActsOnlyOnEver does = (setting : Setting) (calls : List Call) → AllInOctets calls → Acting 0 (trace does (power_on setting).unit calls)

abbrev pub ActsOnlyOn : Stepping → Type 0
ActsOnlyOn does = (u : Device) (calls : List Call) → Stored u → is_sound u ≡ true → AllInOctets calls
    → Acting (out_of u.state).transfer.left (trace does u calls)

-- ** And a whole command arrives, as firmware runs: sent so, each packet has the answer that is due, and a take into a buffer that is long enough gives
-- exactly these bytes. Shuts out: a port that always says wait, one that hands over nothing

abbrev pub WholeCommand : Stepping → Type 0
WholeCommand does = (u : Device) (pieces : List Piece) (calls : List Call) → Stored u → Waiting u → Sendable pieces → AllInOctets calls
    → let P = packet_size u.state in Arrives P (command pieces) (stage_of u (sending P pieces)) (trace does u calls)

-- over calls and answers from power-on: GET_STATUS on 0x01 says that Bulk-OUT runs, and no packet of a command was accepted since the message or break
-- before. Whether an older message is ready, the first packet's answer tells
abbrev pub WholeCommandEver : Stepping → Type 0
WholeCommandEver does = (setting : Setting) (before : List Call) (control : ℕ) (pieces : List Piece) (calls : List Call)
    → let u = after does (power_on setting).unit before in
    let P = packet_size u.state in
    AllInOctets before → (does u (setup_of GET_STATUS_OUT control)).answer ≡ record { verdict = done; bytes = 0 ∷ 0 ∷ [] }
    → Others (accepted_since [] (trace does (power_on setting).unit before)) → Sendable pieces → AllInOctets calls
    → Arrives P (command pieces) (older (sending P pieces)) (trace does u calls) ⊎ Arrives P (command pieces) (coming (sending P pieces)) (trace does u calls)

-- ** "How do we know that the port is clean after a fault without pulling the plug?" Once CHECK_CLEAR_STATUS has answered SUCCESS, every later answer is
-- that of the fresh unit with the seven survivors as they stood, and the two units agree in all that counts, then and after every later call.
-- Shuts out: a port that keeps anything of before the clear

abbrev pub Clean : Stepping → Device → ℕ → List Call → Type 0
Clean does u control later =
    let v = (does u (setup_of CHECK_CLEAR_STATUS control)).unit in
    let w = fresh_unit (packet_size u.state) (survivors u.state) in
    (run does v later ≡ run step w later) × (live (after does v later) ≡ live (after step w later))

abbrev pub CleanAfterFault : Stepping → Type 0
CleanAfterFault does = (u : Device) (control : ℕ) (later : List Call) → Stored u → is_sound u ≡ true
    → Succeeds (does u (setup_of CHECK_CLEAR_STATUS control)).answer → Clean does u control later

-- from power-on, with any size and whatever calls came before
abbrev pub CleanAfterAnyFault : Stepping → Type 0
CleanAfterAnyFault does = (setting : Setting) (before later : List Call) (control : ℕ)
    → let u = after does (power_on setting).unit before in
    Succeeds (does u (setup_of CHECK_CLEAR_STATUS control)).answer → Clean does u control later

-- and then: SUCCESS, any calls but a break, CLEAR_FEATURE on 0x01, a whole command
abbrev pub CommandAfterClear : Stepping → Type 0
CommandAfterClear does = (u : Device) (control feature : ℕ) (between : List Call) (pieces : List Piece) (calls : List Call) → Stored u → is_sound u ≡ true
    → Succeeds (does u (setup_of CHECK_CLEAR_STATUS control)).answer
    → let v = (does u (setup_of CHECK_CLEAR_STATUS control)).unit in
    let w = does (after does v between) (setup_of CLEAR_FEATURE_OUT feature) in
    let P = packet_size u.state in
    NoBreaks (trace does v between) → AllInOctets between → w.answer.verdict.number ≡ 0
    → Sendable pieces → AllInOctets calls → Arrives P (command pieces) (coming (sending P pieces)) (trace does w.unit calls)

-- ** all of it; with "Is there a packet that the port has no rule for?" (port, RuleForEvery), that alignment bytes reach nothing (port,
-- AlignmentIgnored), that SUCCESS is reached and seven things survive (port, Laws), that the setpoint read back is the one that was offered (port,
-- RepliesRead; Replies), and that the bench is told on 0x83 what it is to be told (port, StatusTold; Service)

pub record Claimed (does : Stepping) : Type 0 where
  pub no_half_command : NoHalfCommand does
  pub no_half_command_ever : NoHalfCommandEver does
  pub acts_only_on : ActsOnlyOn does
  pub acts_only_on_ever : ActsOnlyOnEver does
  pub whole_command : WholeCommand does
  pub whole_command_ever : WholeCommandEver does
  pub clear_reached : ClearReached does
  pub clear_reached_polled : ClearReachedPolled does
  pub clear_reached_halted : ClearReachedHalted does
  pub survive : Survive does
  pub clean_after_fault : CleanAfterFault does
  pub clean_after_any_fault : CleanAfterAnyFault does
  pub command_after_clear : CommandAfterClear does
  pub rule_for_every : RuleForEvery does
  pub alignment_ignored : AlignmentIgnored does
  pub replies_read : RepliesRead does
  pub read_back : ReadBack does
  pub reply_arrives : ReplyArrives does
  pub whole_reply : WholeReply does
  pub status_told : StatusTold does
  pub no_request_lost : NoRequestLost does
  pub status_comes : StatusComes does
  pub none_made_up : NoneMadeUp does
