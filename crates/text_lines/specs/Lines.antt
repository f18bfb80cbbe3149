-- THE meaning of a line, beside vectors/README.md: one call with its arguments, nothing, or what is wrong with it.
-- Assumes nothing.
use Rattle.std.specs.Prelude.{ℕ, ◌+◌, List, [], ◌∷◌, length, Option, Some, None, Result, Ok, Err}
use Prim.Native.String.{String}
use Rattle.rules.specs.Choice.{◌<ᵇ◌, no, pick, ◌⇒◌∣◌, first}
use Rattle.text_put.specs.Text.{ascii}
use Rattle.text_words.specs.Text.{same}
use Rattle.text_words.specs.Words.{said, word, is_missing}
use Rattle.text_lines.specs.Given.{size_of, length_of, given_by, status_of}
use Rattle.text_lines.specs.declared.given.Unread.{Unread}
use Rattle.text_lines.specs.declared.names.Name.{Name}
use Rattle.text_lines.specs.declared.names.Name.TheVariants.{Power, Setup, Out, In, Interrupt, Take, Offer, Status as SetStatus}
use Rattle.text_lines.specs.declared.names.Name.TheVariants.{Local, Reset, Suspend, State, More}

-- ** what a line can mean

-- BUFFER: the length that is said, or "where it is not said" the call's own
pub data Lent : Type 0 where
  of_length : ℕ → Lent
  of_the_call : Lent

-- what is wrong: over 4,096 bytes; a word that is no call's name; a name that needs a word behind it; a word too many; a word, and why it
-- cannot be read
pub data Wrong : Type 0 where
  too_long : Wrong
  no_call : List ℕ → Wrong
  too_few : List ℕ → Wrong
  too_many : List ℕ → Wrong
  unread : List ℕ → Unread → Wrong

pub data Meaning : Type 0 where
  nothing : Meaning
  wrong : Wrong → Meaning
  power : ℕ → Meaning
  setup : List ℕ → Lent → Meaning
  out : List ℕ → Meaning
  in_poll : Lent → Meaning
  in3_poll : Lent → Meaning
  take_into : Lent → Meaning
  offer : List ℕ → Meaning
  status : ℕ → Meaning
  local : Meaning
  reset : Meaning
  suspend : Meaning
  state : Meaning
  more : Meaning

-- ** what a word gives to a call

abbrev pub by : {A : Type 0} → List ℕ → Result A Unread → (A → Meaning) → Meaning
by w (Ok x) call = call x
by w (Err why) call = wrong (unread w why)

abbrev pub lent : Option ℕ → Lent
lent (Some n) = of_length n
lent None = of_the_call

-- the words P, BUFFER, HEX and HH of vectors/README.md
abbrev pub P : List ℕ → (ℕ → Meaning) → Meaning
P w call = by w (size_of w) call

abbrev pub BUFFER : List ℕ → (Lent → Meaning) → Meaning
BUFFER w call = by w (length_of w) λ n. call (lent n)

abbrev pub HEX : List ℕ → (List ℕ → Meaning) → Meaning
HEX w call = by w (given_by w) call

abbrev pub HH : List ℕ → (ℕ → Meaning) → Meaning
HH w call = by w (status_of w) call

-- ** the calls

-- a call's name, the fewest and the most words behind it, and what the call is by the first two of them: a word that is missing is empty
pub record Row : Type 0 where
  pub name : List ℕ
  pub least : ℕ
  pub most : ℕ
  pub asks : List ℕ → List ℕ → Meaning

infix 2 ◌∣◌to◌▹◌
abbrev pub ◌∣◌to◌▹◌ : String → ℕ → ℕ → (List ℕ → List ℕ → Meaning) → Row
name ∣ least to most ▹ asks = record { name = ascii name; least = least; most = most; asks = asks }

abbrev pub row : Name → Row
row Power = "power" ∣ 1 to 1 ▹ λ p _. P p power
row Setup = "setup" ∣ 1 to 2 ▹ λ hex n. HEX hex λ s. BUFFER n (setup s)
row Out = "out" ∣ 1 to 1 ▹ λ hex _. HEX hex out
row In = "in" ∣ 0 to 1 ▹ λ n _. BUFFER n in_poll
row Interrupt = "in3" ∣ 0 to 1 ▹ λ n _. BUFFER n in3_poll
row Take = "take" ∣ 0 to 1 ▹ λ n _. BUFFER n take_into
row Offer = "offer" ∣ 1 to 1 ▹ λ hex _. HEX hex offer
row SetStatus = "status" ∣ 1 to 1 ▹ λ hh _. HH hh status
row Local = "local" ∣ 0 to 0 ▹ λ _ _. local
row Reset = "reset" ∣ 0 to 0 ▹ λ _ _. reset
row Suspend = "suspend" ∣ 0 to 0 ▹ λ _ _. suspend
row State = "state" ∣ 0 to 0 ▹ λ _ _. state
row More = "more" ∣ 0 to 0 ▹ λ _ _. more

abbrev pub names : List Name
names = Power ∷ Setup ∷ Out ∷ In ∷ Interrupt ∷ Take ∷ Offer ∷ SetStatus ∷ Local ∷ Reset ∷ Suspend ∷ State ∷ More ∷ []

-- the call of these whose name the word is
abbrev pub among : List Name → List ℕ → Option Name
among [] w = None
among (n ∷ ns) w = pick (same w (row n).name) (Some n) (among ns w)

unfoldable pub name_of : List ℕ → Option Name
name_of w = among names w

-- ** the meaning

-- of a text whose word 0 names a call, by the words behind it
abbrev pub called : List ℕ → Row → Meaning
called s r =
    first
    (is_missing (word r.least s) ⇒ wrong (too_few (word 0 s)) ∣
    no (is_missing (word (r.most + 1) s)) ⇒ wrong (too_many (word (r.most + 1) s)) ∣ [])
    (r.asks (word 1 s) (word 2 s))

abbrev pub by_name : List ℕ → Option Name → Meaning
by_name s None = wrong (no_call (word 0 s))
by_name s (Some name) = called s (row name)

abbrev pub meaning_of : List ℕ → Meaning
meaning_of s = pick (is_missing (word 0 s)) nothing (by_name s (name_of (word 0 s)))

-- "a line has at most 4,096 bytes"
abbrev pub LONGEST : ℕ
LONGEST = 4096

unfoldable pub meaning : List ℕ → Meaning
meaning line = pick (LONGEST <ᵇ length line) (wrong too_long) (meaning_of (said line))
