-- What code leaves beside what a line leaves.
-- Assumes nothing.
use Rattle.std.specs.Prelude.{ℕ, ◌≡◌, List, length}
use Rattle.std.specs.Borrow.{MutBor}
use Rattle.port.specs.Device.{Device}
use Rattle.port.specs.Step.{Call, step, quiet, setup_of, in_poll, interrupt_poll, take_into}
use Rattle.text_put.specs.Pages.{Types}
use Rattle.text_put.specs.declared.Page.{Page}
use Rattle.text_answers.specs.Answer.{done_text, told_text}
use Rattle.text_lines.specs.Lines as Lines
use Rattle.text_lines.specs.Lines.{Lent, Meaning}
use Rattle.unit.specs.Promise.{device_of, Tells}
use Rattle.unit.specs.declared.types.Done.{Done}
use Rattle.unit.specs.declared.types.Told.{Told}
use Rattle.unit.specs.declared.types.Unit.{Unit}
use Rattle.replay.specs.Play.{After, carried_out, room, told}

-- the unit is that one, and the answer is put on the page, which was `p` before and is `q` after
pub record Puts (a : After) (p q : Page) (r : Unit) : Type 0 where
  pub unit : device_of r ≡ a.unit
  pub text : Types p a.text q

-- what a call handed back, with its answer
abbrev pub finished : Done → After
finished d = record { unit = device_of d.unit; text = done_text d.verdict }

-- the same of a call that left this buffer
abbrev pub shown : Told → List ℕ → After
shown t buffer = record { unit = device_of t.unit; text = told_text t.verdict t.len buffer }

-- ** a call that is lent a buffer

-- the call by the length of the buffer, and what a line means that asks for it
pub record Lending : Type 0 where
  pub call : ℕ → Call
  pub meaning : Lent → Meaning

-- code that is lent a buffer makes that call: `left` says what it leaves
abbrev pub Makes : (Unit → MutBor (List ℕ) → Told → MutBor (List ℕ) → Type 0) → (ℕ → Call) → Type 0
Makes left call =
    (u : Unit) (before : MutBor (List ℕ)) (t : Told) (after : MutBor (List ℕ)) → left u before t after
    → Tells (step (device_of u) (call (length before.now))) before.now after.now t

-- the line is carried out by that call, with the call's own length where none is said
abbrev pub Means : Device → ℕ → Lending → Type 0
Means u own l = (b : Lent) → carried_out u (l.meaning b) ≡ told (step u (l.call (room own b)))

-- ** those calls

abbrev pub setting_up : List ℕ → Lending
setting_up packet = record { call = λ n. setup_of packet n; meaning = Lines.setup packet }

abbrev pub polling : Lending
polling = record { call = λ n. quiet (in_poll n); meaning = Lines.in_poll }

abbrev pub polling_interrupt : Lending
polling_interrupt = record { call = λ n. quiet (interrupt_poll n); meaning = Lines.in3_poll }

abbrev pub taking : Lending
taking = record { call = λ n. take_into n; meaning = Lines.take_into }
