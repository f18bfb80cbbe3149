-- `text_words::bytes::Bytes::push` meets its contract.
use Prim.Native.Nat.{ℕ, ◌+◌, ◌≤◌, ◌<◌}
use mathlib.Core.Path.{◌≡◌, sym, ◌∙◌}
use mathlib.Core.List.{List, [], ◌∷◌, ◌++◌}
use native.Mathlib.Omega.{arith}
use native.Mathlib.Numerals.{add-one}
use lib.ListN.{length, take, set, length-append}
use lib.Seq.{take_all, take-suc-set, length-take-le}
use Rattle.std.proofs.lemmas.List.{take-append-le}
use Rattle.text_words.proofs.bytes.Bytes.push.Goals as goal

module _ (buffer : List ℕ) (n b : ℕ) (long : length buffer ≡ 2048) where
  more : n < 2048 → take (n + 1) (set buffer n b) ≡ take 2048 (take n buffer ++ b ∷ [])
  more h =
      rw (add-one n)
      (take-suc-set buffer n b (omega arith)
      ∙ sym (take_all 2048 (take n buffer ++ b ∷ []) (omega (arith, length-append (take n buffer) (b ∷ []), length-take-le n buffer (omega arith)))))

  full : n ≤ 2048 → 2048 ≤ n → take n buffer ≡ take 2048 (take n buffer ++ b ∷ [])
  full h k =
      let e : length (take n buffer) ≡ n = length-take-le n buffer (omega arith) in
      sym (take-append-le 2048 (take n buffer) (b ∷ []) (omega arith) ∙ take_all 2048 (take n buffer) (omega arith))

pub returns-then-self-lt-BYTES : goal.returns-then-self-lt-BYTES
returns-then-self-lt-BYTES c = rw (← c.self.view_is) (more c.self.inside.buffer c.self.inside.len c.args.byte c.self.told c.if-self-lt-BYTES.true)

pub returns-else-self-lt-BYTES : goal.returns-else-self-lt-BYTES
returns-else-self-lt-BYTES c =
    rw (← c.self.view_is) (full c.self.inside.buffer c.self.inside.len c.args.byte c.self.told c.self.invariant c.if-self-lt-BYTES.false)
