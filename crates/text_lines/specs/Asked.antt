-- What a line asks for, by the bytes of its words: what code hands on; and what that means.
-- Assumes nothing.
use Rattle.std.specs.Prelude.{ℕ, ◌+◌, List, [], length, Option, Some, None, Result, Ok, Err}
use Rattle.rules.specs.Choice.{◌<ᵇ◌, no, pick, ◌⇒◌∣◌, first}
use Rattle.text_words.specs.Words.{said, word, is_missing}
use Rattle.text_lines.specs.Lines as Lines
use Rattle.text_lines.specs.Lines.{Meaning, nothing, wrong, too_long, no_call, too_few, too_many, row, name_of, LONGEST}
use Rattle.text_lines.specs.declared.asked.Call.{Call}
use Rattle.text_lines.specs.declared.asked.Wrong.{Wrong}
use Rattle.text_lines.specs.declared.asked.Wrong.TheVariants.{TooLong, NoCall, TooFew, TooMany}
use Rattle.text_lines.specs.declared.names.Name.{Name}

-- ** what a line asks for

-- a call, and the first two words behind its name, each whether the call reads it or not; a word that is missing is empty
pub record Asking : Type 0 where
  pub name : Name
  pub first : List ℕ
  pub second : List ℕ

-- a text whose word 0 is this name
unfoldable pub asked_call : List ℕ → Name → Result Asking Lines.Wrong
asked_call s name =
    first
    (is_missing (word (row name).least s) ⇒ Err (too_few (word 0 s)) ∣
    no (is_missing (word ((row name).most + 1) s)) ⇒ Err (too_many (word ((row name).most + 1) s)) ∣ [])
    (Ok (record { name = name; first = word 1 s; second = word 2 s }))

abbrev pub for_call : Result Asking Lines.Wrong → Result (Option Asking) Lines.Wrong
for_call (Ok a) = Ok (Some a)
for_call (Err w) = Err w

abbrev pub asked_by : List ℕ → Option Name → Result (Option Asking) Lines.Wrong
asked_by s None = Err (no_call (word 0 s))
asked_by s (Some name) = for_call (asked_call s name)

unfoldable pub asked_text : List ℕ → Result (Option Asking) Lines.Wrong
asked_text s = pick (is_missing (word 0 s)) (Ok None) (asked_by s (name_of (word 0 s)))

unfoldable pub asked : List ℕ → Result (Option Asking) Lines.Wrong
asked line = pick (LONGEST <ᵇ length line) (Err too_long) (asked_text (said line))

-- ** what code was told, by the bytes of its words

abbrev pub wrong_asked : Wrong → Lines.Wrong
wrong_asked TooLong = too_long
wrong_asked (NoCall w) = no_call w.now
wrong_asked (TooFew w) = too_few w.now
wrong_asked (TooMany w) = too_many w.now

abbrev pub call_told : Result Call Wrong → Result Asking Lines.Wrong
call_told (Ok call) = Ok (record { name = call.name; first = call.first.now; second = call.second.now })
call_told (Err w) = Err (wrong_asked w)

abbrev pub told : Result (Option Call) Wrong → Result (Option Asking) Lines.Wrong
told (Ok None) = Ok None
told (Ok (Some call)) = for_call (call_told (Ok call))
told (Err w) = Err (wrong_asked w)

-- ** what that means

abbrev pub call_meant : Result Call Wrong → Meaning
call_meant (Ok call) = (row call.name).asks call.first.now call.second.now
call_meant (Err w) = wrong (wrong_asked w)

abbrev pub meant : Result (Option Call) Wrong → Meaning
meant (Ok None) = nothing
meant (Ok (Some call)) = call_meant (Ok call)
meant (Err w) = wrong (wrong_asked w)
