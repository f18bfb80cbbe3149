-- THE promise of a line, beside vectors/README.md: the unit after it, and the text that answers it, by what the line means.
-- Assumes nothing.
use Rattle.std.specs.Prelude.{ℕ, List, []}
use Rattle.rules.specs.Choice.{◌=ᵇ◌, pick}
use Rattle.rules.specs.Answers.{DONE}
use Rattle.port.specs.Parts.{STORE, packet_size}
use Rattle.port.specs.Answer.{Answer}
use Rattle.port.specs.Device.{Device, Result, power_on}
use Rattle.port.specs.Step as call
use Rattle.port.specs.Step.{step, quiet}
use Rattle.text_put.specs.Text.{ascii, ◌then◌}
use Rattle.text_put.specs.Numbers.{hex_text}
use Rattle.text_lines.specs.Lines.{Lent, of_length, of_the_call, Wrong, too_long, no_call, too_few, too_many, unread, meaning}
use Rattle.text_lines.specs.Lines.{Meaning, nothing, wrong, power, setup, out, in_poll, in3_poll, take_into, offer, status, local, reset, suspend, state, more}
use Rattle.text_lines.specs.declared.given.Unread.{Unread}
use Rattle.text_lines.specs.declared.given.Unread.TheVariants.{NoDecimal, Above, NoHexDigit, OddDigits, NoStatus}
use Rattle.text_answers.specs.Answer.{verdict_text, done_text}
use Rattle.text_answers.specs.Overview.{overview_text, more_text}
use Rattle.text_answers.specs.Wrong.{too_long_text, unknown_name_text, too_few_words_text, too_many_words_text}
use Rattle.text_answers.specs.Wrong.{no_status_text, no_decimal_text, too_large_text, no_hex_digit_text, odd_hex_text}

-- what a line leaves: the unit, and its answer
pub record After : Type 0 where
  pub unit : Device
  pub text : List ℕ

abbrev pub as_it_was : Device → List ℕ → After
as_it_was u text = record { unit = u; text = text }

-- ** a call on the unit

-- "It begins with the number, and trigger or pulse where the answer tells it"
abbrev pub done : Result → After
done q = record { unit = q.unit; text = done_text q.answer.verdict }

-- "For setup, in, in3 and take answered 0 the bytes written follow": no answer ends with ` spilled`
unfoldable pub bytes_text : Answer → List ℕ
bytes_text a =
    pick (a.verdict.number =ᵇ DONE)
    (verdict_text a.verdict then ascii " " then hex_text a.bytes then ascii "\n")
    (done_text a.verdict)

abbrev pub told : Result → After
told q = record { unit = q.unit; text = bytes_text q.answer }

-- "BUFFER is the length of the lent buffer": the call's own "where it is not said"
abbrev pub room : ℕ → Lent → ℕ
room own (of_length n) = n
room own of_the_call = own

-- ** a line that cannot be read

abbrev pub unread_text : List ℕ → Unread → List ℕ
unread_text w NoDecimal = no_decimal_text w
unread_text w (Above most) = too_large_text w most
unread_text w (NoHexDigit b) = no_hex_digit_text b
unread_text w OddDigits = odd_hex_text w
unread_text w NoStatus = no_status_text w

abbrev pub why_text : Wrong → List ℕ
why_text too_long = too_long_text
why_text (no_call w) = unknown_name_text w
why_text (too_few w) = too_few_words_text w
why_text (too_many w) = too_many_words_text w
why_text (unread w why) = unread_text w why

-- ** what a line leaves

unfoldable pub carried_out : Device → Meaning → After
carried_out u nothing = as_it_was u []
carried_out u (wrong w) = as_it_was u (why_text w)
carried_out u (power p) = done (power_on (record { packet = p }))
carried_out u (setup s b) = told (step u (call.setup_of s (room 24 b)))
carried_out u (out s) = done (step u (call.out_packet s))
carried_out u (in_poll b) = told (step u (quiet (call.in_poll (room (packet_size u.state) b))))
carried_out u (in3_poll b) = told (step u (quiet (call.interrupt_poll (room 2 b))))
carried_out u (take_into b) = told (step u (call.take_into (room STORE b)))
carried_out u (offer s) = done (step u (quiet (call.offer_reply s)))
carried_out u (status b) = done (step u (quiet (call.set_status b)))
carried_out u local = done (step u (quiet call.front_panel))
carried_out u reset = done (step u call.bus_reset)
carried_out u suspend = done (step u (quiet call.bus_suspend))
carried_out u state = as_it_was u (overview_text u.state.small u.state.split u.state.remote)
carried_out u more = as_it_was u (more_text u.state.small)

unfoldable pub played : Device → List ℕ → After
played u line = carried_out u (meaning line)
