-- Every definition that a closed run computes with: whoever says `unfolding computed` opens them all.
-- Assumes nothing.
use Prim.Native.Nat.{ℕ}
use Rattle.rules.specs.Choice.{no, ◌≠ᵇ◌, ◌or◌, ◌and◌, pick}
use Rattle.wire.specs.Bytes.{number4, bytes4, zeros}
use Rattle.wire.specs.Header.{read_message, read_request, read_trigger, read_header, in_header}
use Rattle.wire.specs.Setup.{fitting, to_endpoint, to_interface, to_feature, to_status, to_device, read_setup}
use Rattle.port.specs.Parts.{fresh, broken, shut}
use Rattle.port.specs.Remote.{with_ren_on, local_now}
use Rattle.port.specs.Sound.{port_sound, open_sound, held_sound, resting_sound, out_sound, unasked, unsending, idle, asked_sound, sending_sound, phase_sound}
use Rattle.port.specs.Sound.{in_sound, packet_sound, waiting_sound, silent_sound, interrupt_sound, clear_sound, not_owed, abort_out_sound, split_sound, sound}
use Rattle.port.specs.Out.{more, header_says, outcome, absorbed, accepted, planned, out_plan}
use Rattle.port.specs.In.{fixed, header, started, to_go, gone, send, next_packet, poll}
use Rattle.port.specs.Interrupt.{notified, status_held, polled, status_queued, poll_interrupt}
use Rattle.port.specs.Rows.{initiate_abort_out, initiate_abort_in, check_abort_out, check_abort_in, clearing, initiate_clear}
use Rattle.port.specs.Rows.{check_clear, read_status, clear_feature_out, clear_feature_in, answer_row, effected}
use Rattle.port.specs.Device.{zeroed, made, power_on}
use Rattle.port.specs.Calls.{bulk_out, bulk_in, interrupt_in, asked, setup_outcome, answered, setup, released, taking, take_message}
use Rattle.port.specs.Calls.{offered, offer_plan, offer, status_set, set_status_byte, returned, panel, reset_by_bus, suspend}
use Rattle.port.specs.Step.{quietly, soundly, step, run, after}

unfoldable pub computed : ℕ
unfolding no ◌≠ᵇ◌ ◌or◌ ◌and◌ pick number4 bytes4 zeros read_message read_request read_trigger read_header in_header fitting to_endpoint to_interface to_feature to_status to_device read_setup
    fresh broken shut with_ren_on local_now port_sound open_sound held_sound resting_sound out_sound unasked unsending idle asked_sound sending_sound phase_sound in_sound packet_sound
    waiting_sound silent_sound interrupt_sound clear_sound not_owed abort_out_sound split_sound sound more header_says outcome absorbed accepted planned out_plan fixed header started to_go
    gone send next_packet poll notified status_held polled status_queued poll_interrupt initiate_abort_out initiate_abort_in check_abort_out check_abort_in clearing initiate_clear check_clear
    read_status clear_feature_out clear_feature_in answer_row effected zeroed made power_on bulk_out bulk_in interrupt_in asked setup_outcome answered setup released taking take_message
    offered offer_plan offer status_set set_status_byte returned panel reset_by_bus suspend quietly soundly step run after
computed = 0
