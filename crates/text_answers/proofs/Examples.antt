-- Answers as they come out. Assumes nothing.
use mathlib.Core.Path.{◌≡◌, refl}
use mathlib.Core.List.{[], ◌∷◌}
use Rattle.rules.specs.Choice.{pick, no, ◌≠ᵇ◌, ◌and◌}
use Rattle.port.specs.Parts.{fresh}
use Rattle.text_put.specs.Text.{ascii, spelled, ◌then◌}
use Rattle.text_put.specs.Numbers.{digit_of, zeros_in_front, hex_text}
use Rattle.text_answers.specs.Answer.{FILL, tells_text, verdict_text, done_text, filled, filled_behind, end_text, told_text}
use Rattle.text_answers.specs.Overview.{flag_text, halted_text, port_text, halts_text, message_text, reply_text, tags_text, overview_text, notify_text, more_text}
use Rattle.text_answers.specs.Wrong.{shown_byte, quoted_text, wrong_text, too_large_text, no_hex_digit_text}

dones : (done_text (record { number = 13; tells = 0 }) ≡ ascii "13\n") × (done_text (record { number = 0; tells = 1 }) ≡ ascii "0 trigger\n")
unfolding digit_of zeros_in_front tells_text verdict_text done_text ◌then◌ pick
dones = (refl, refl)

-- two bytes; none; a byte past the answer is written; a call that is refused has written
told :
    (told_text (record { number = 0; tells = 0 }) 2 (0x2a ∷ 0x0a ∷ FILL ∷ []) ≡ ascii "0 2a0a\n")
    × (told_text (record { number = 0; tells = 2 }) 0 (FILL ∷ FILL ∷ []) ≡ ascii "0 pulse -\n")
    × (told_text (record { number = 0; tells = 0 }) 1 (0x2a ∷ 0x0a ∷ FILL ∷ []) ≡ ascii "0 2a spilled\n")
    × (told_text (record { number = 5; tells = 0 }) 0 (FILL ∷ 0 ∷ []) ≡ ascii "5 spilled\n")
unfolding digit_of zeros_in_front hex_text spelled tells_text verdict_text filled filled_behind end_text told_text ◌then◌ pick ◌and◌
told = (refl, refl, refl, refl)

state :
    let st = fresh (record { packet = 64 }) 1 in
    overview_text st.small st.split st.remote
    ≡ ascii "0 configured=1 ren=0 remote=LOCS status=00 out=running in=running message=none reply=0 split=none owed=0 tags=00,00\n"
unfolding digit_of zeros_in_front flag_text halted_text port_text halts_text message_text reply_text tags_text overview_text ◌then◌ pick no ◌≠ᵇ◌ fresh
state = refl

more : more_text (fresh (record { packet = 512 }) 0).small ≡ ascii "0 p=512 int=none int-endpoint=running\n"
unfolding digit_of zeros_in_front halted_text notify_text more_text ◌then◌ pick fresh
more = refl

-- a word that is cut, and a byte that is not printed
wrongs :
    (too_large_text (ascii "1234567890123456789012345") 2048 ≡ ascii "? `123456789012345678901234..` is too large: give at most 2048\n")
    × (no_hex_digit_text 7 ≡ ascii "? `?` is no hex digit: give pairs of them, or - for no bytes\n")
unfolding digit_of zeros_in_front spelled shown_byte quoted_text wrong_text too_large_text ◌then◌ pick
wrongs = (refl, refl)
