-- 02, request 2: "Alignment bytes may be anything", and "they still reach no message and no count". Over any unit and any two packets; nothing here is the
-- step's. THE LAW is AlignmentIgnored.
-- Assumes nothing.
use Rattle.std.specs.Prelude.{ℕ, ◌+◌, ◌≡◌, List, length, take}
use Rattle.rules.specs.When.{Not}
use Rattle.wire.specs.When.{four_at}
use Rattle.port.specs.Device.{Device}
use Rattle.port.specs.Step.{out_packet, Stepping}
use Rattle.port.specs.When.{OutOpen}

-- two packets of one length that are equal but for alignment bytes: equal as far as the data goes, which is what the open transfer lacks, or behind a
-- header the TransferSize that it says. Bytes that are too many stand behind the data as well, and may differ too
pub record EqualButAlignment (u : Device) (s t : List ℕ) : Type 0 where
  pub long : length s ≡ length t
  pub more : OutOpen u → take u.state.small.bulkout.transfer.left s ≡ take u.state.small.bulkout.transfer.left t
  pub header : Not (OutOpen u) → take (12 + four_at s 4) s ≡ take (12 + four_at s 4) t

-- THE LAW: they get the same answer and leave the same unit, stores included, on any unit, refused or not. Shuts out: a port that minds what alignment
-- bytes are, or keeps one anywhere
abbrev pub AlignmentIgnored : Stepping → Type 0
AlignmentIgnored does = (u : Device) (s t : List ℕ) → EqualButAlignment u s t → does u (out_packet s) ≡ does u (out_packet t)
