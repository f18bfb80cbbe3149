-- A setup packet is read from its first eight bytes alone.
-- Assumes nothing.
use Rattle.std.proofs.Common.{◌≡◌, ℕ, List, take, lit<}
use Rattle.std.proofs.lemmas.List.{get_or-take}
use Rattle.wire.specs.Setup.{fitting, to_endpoint, to_interface, to_feature, to_status, to_device, read_setup}

pub first_eight : (s : List ℕ) → read_setup (take 8 s) ≡ read_setup s
unfolding read_setup to_endpoint to_interface to_feature to_status to_device fitting
first_eight s =
    simp (
      get_or-take 8 s 0 0 (lit< tt),
      get_or-take 8 s 1 0 (lit< tt),
      get_or-take 8 s 2 0 (lit< tt),
      get_or-take 8 s 3 0 (lit< tt),
      get_or-take 8 s 4 0 (lit< tt),
      get_or-take 8 s 5 0 (lit< tt),
      get_or-take 8 s 6 0 (lit< tt),
      get_or-take 8 s 7 0 (lit< tt),
    )
