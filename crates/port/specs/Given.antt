-- What a call comes to in code: what the definitions say, with the length of its bytes in place of the bytes, which the lent buffer has.
-- Assumes nothing.
use Rattle.std.specs.Prelude.{ℕ, ◌≡◌, List, length}
use Rattle.wire.specs.Bytes.{into}
use Rattle.port.specs.Answer.{Said}
use Rattle.port.specs.declared.types.Given.{Given}

abbrev pub given_of : Said → Given
given_of r = record { state = r.state; verdict = r.answer.verdict; len = length r.answer.bytes }

-- and its bytes stand in the buffer, which held `before` and holds `after`
abbrev pub Hands : Said → Given → List ℕ → List ℕ → Type 0
Hands said r before after = (r ≡ given_of said) × (after ≡ into said.answer.bytes before)
