-- The text of an answer to a call that was played (vectors/README.md). Assumes nothing.
use Rattle.std.specs.Prelude.{ℕ, Bool, true, List, [], ◌∷◌, length, take, drop}
use Rattle.rules.specs.Choice.{◌=ᵇ◌, ◌≤ᵇ◌, ◌and◌, pick, first, ◌⇒◌∣◌}
use Rattle.rules.specs.Answers.{DONE, TELLS_TRIGGER, TELLS_PULSE}
use Rattle.rules.specs.declared.verdict.Verdict.{Verdict}
use Rattle.text_put.specs.Text.{ascii, ◌then◌}
use Rattle.text_put.specs.Numbers.{decimal_text, hex_text}

-- what a lent buffer is filled with before a call
abbrev pub FILL : ℕ
FILL = 0xa5

-- ** the number, and what is told

unfoldable pub tells_text : ℕ → List ℕ
tells_text tells = first (tells =ᵇ TELLS_TRIGGER ⇒ ascii " trigger" ∣ tells =ᵇ TELLS_PULSE ⇒ ascii " pulse" ∣ []) []

unfoldable pub verdict_text : Verdict → List ℕ
verdict_text v = decimal_text v.number then tells_text v.tells

-- the answer to a call that is lent no buffer
unfoldable pub done_text : Verdict → List ℕ
done_text v = verdict_text v then ascii "\n"

-- ** the lent buffer

-- every byte is as it was filled
unfoldable pub filled : List ℕ → Bool
filled [] = true
filled (b ∷ bytes) = b =ᵇ FILL and filled bytes

-- the `len` bytes of an answer fit their buffer, and every byte past them is as it was filled
unfoldable pub filled_behind : List ℕ → ℕ → Bool
filled_behind buffer len = len ≤ᵇ length buffer and filled (drop len buffer)

-- the end of an answer: a word where the call has written what it was not to write
unfoldable pub end_text : Bool → List ℕ
end_text is_kept = pick is_kept (ascii "\n") (ascii " spilled\n")

-- the answer to a call that was lent a buffer: it shows the `len` bytes that were written only where the call is answered 0, and any
-- other number leaves the whole buffer as it was filled
unfoldable pub told_text : Verdict → ℕ → List ℕ → List ℕ
told_text v len buffer =
    pick (v.number =ᵇ DONE)
    (verdict_text v then ascii " " then hex_text (take len buffer) then end_text (filled_behind buffer len))
    (verdict_text v then end_text (filled buffer))
