-- What it is for a message to have been brought: the packets that the port accepted are those of one command, as a host sends it (Command), and the
-- message is that command's data.
-- Assumes nothing.
use Rattle.std.specs.Prelude.{ℕ, ◌+◌, ◌≤◌, ◌≡◌, List, [], ◌∷◌, ◌++◌, ◌⊎◌, length}
use Rattle.port.specs.Parts.{out_of}
use Rattle.port.specs.Device.{Device, held_of}
use Rattle.port.specs.Trace.{Event}
use Rattle.claims.specs.Command.{Piece, command, Aligns, Good, Sendable, packets, mark, sending, Others}
use Rattle.claims.specs.Wire.{Heard, nothing, accepted, broken_off, wiped_out, handed_over, heard_of, accepted_in, Unbroken, Waits, Divided}

-- ** accepted packets and a message: these are the packets of one command, with others before it, and that is its data

pub record Whole (P : ℕ) (ps : List (List ℕ)) (m : List ℕ) : Type 0 where
  pub others : List (List ℕ)
  pub pieces : List Piece
  pub before : Others others
  pub sendable : Sendable pieces
  pub sent : ps ≡ others ++ sending P pieces
  pub message : m ≡ command pieces

-- the history before a message is handed over, in three stretches: up to the message or break before; from there to the message's end; and behind that
pub record Brought (P : ℕ) (es : List Event) (m : List ℕ) : Type 0 where
  pub earlier : List Event
  pub bringing : List Event
  pub later : List Event
  pub stretches : es ≡ earlier ++ (bringing ++ later)
  pub first : Divided earlier
  pub unbroken : Unbroken bringing
  pub whole : Whole P (accepted_in bringing) m
  pub waits : Waits later

-- ** where a history starts on a unit that holds something: its data, the data bytes that its open transfer lacks, and whether it is marked as the end

pub record Begun : Type 0 where
  pub held : List ℕ
  pub lacks : ℕ
  pub end : ℕ

-- what it lacks comes, aligned, cut by P; and then the transfers that follow, if it was not marked as the end
pub record Rest (P : ℕ) (b : Begun) (ps : List (List ℕ)) (m : List ℕ) : Type 0 where
  pub rest : List ℕ
  pub alignment : List ℕ
  pub pieces : List Piece
  pub lacking : length rest ≡ b.lacks
  pub aligns : Aligns alignment rest
  pub good : Good pieces
  pub end : mark pieces ≡ b.end
  pub fits : length m ≤ 1024
  pub sent : ps ≡ packets P (rest ++ alignment) ++ sending P pieces
  pub message : m ≡ b.held ++ (rest ++ command pieces)

pub record Finished (P : ℕ) (b : Begun) (es : List Event) (m : List ℕ) : Type 0 where
  pub bringing : List Event
  pub later : List Event
  pub stretches : es ≡ bringing ++ later
  pub unbroken : Unbroken bringing
  pub rest : Rest P b (accepted_in bringing) m
  pub waits : Waits later

-- ** every message of a history was brought: `Source` says so of what comes before it

abbrev pub Allowed : (List Event → List ℕ → Type 0) → List Event → Heard → Type 0
Allowed Source before nothing = Unit {0}
Allowed Source before (accepted s) = Unit {0}
Allowed Source before broken_off = Unit {0}
Allowed Source before wiped_out = Unit {0}
Allowed Source before (handed_over m) = Source before m

abbrev pub Legal : (List Event → List ℕ → Type 0) → List Event → List Event → Type 0
Legal Source before [] = Unit {0}
Legal Source before (e ∷ es) = Allowed Source before (heard_of e) × Legal Source (before ++ (e ∷ [])) es

-- from power-on, and from a unit that holds something
abbrev pub AllBrought : ℕ → List Event → Type 0
AllBrought P es = Legal (Brought P) [] es

abbrev pub AllBroughtFrom : ℕ → Begun → List Event → Type 0
AllBroughtFrom P b es = Legal (λ before m. Brought P before m ⊎ Finished P b before m) [] es

-- what a unit holds: the data of its message, what its open transfer lacks, and whether the message is ready or its open transfer marked as the end
abbrev pub begun : Device → Begun
begun u = let o = out_of u.state in record { held = held_of u; lacks = o.transfer.left; end = o.message.ready + o.transfer.end }
