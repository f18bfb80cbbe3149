-- How a host sends a command, byte by byte: cut into transfers of one byte or more, each a header, its data and its alignment bytes, cut into packets of P.
-- And the two other headers that a host sends. Nothing here is the port's: no unit, no reader, no rule.
-- Assumes nothing.
use Rattle.std.specs.Prelude.{ℕ, zero, suc, ◌-◌, ◌/◌, ◌%◌, ◌≤◌, ◌≡◌, List, [], ◌∷◌, ◌++◌, ◌⊎◌, length, take, drop, replicate}

-- a transfer of a command: the empty packets that come before it, its tag, its data, and the alignment bytes that the host leaves behind them
pub record Piece : Type 0 where
  pub empties : ℕ
  pub tag : ℕ
  pub bytes : List ℕ
  pub alignment : List ℕ

-- ** the data

abbrev pub command : List Piece → List ℕ
command [] = []
command (p ∷ ps) = p.bytes ++ command ps

-- these bytes align that data: there are 0 to 3 of them, up to a multiple of four. They "may be anything" (02, request 2)
abbrev pub Aligns : List ℕ → List ℕ → Type 0
Aligns alignment d = length alignment ≡ (4 - length d % 4) % 4

-- tags from 1 to 255, and one byte or more in each transfer, aligned
abbrev pub Good : List Piece → Type 0
Good [] = Unit {0}
Good (p ∷ ps) = (1 ≤ p.tag) × (p.tag ≤ 255) × (1 ≤ length p.bytes) × Aligns p.alignment p.bytes × Good ps

-- a command that a port can hold: "1,024 bytes"
pub record Sendable (pieces : List Piece) : Type 0 where
  pub good : Good pieces
  pub some : 1 ≤ length (command pieces)
  pub fits : length (command pieces) ≤ 1024

-- ** the bytes of a transfer

-- a number in four bytes, the least significant first
abbrev pub four_bytes : ℕ → List ℕ
four_bytes n = n % 256 ∷ n / 256 % 256 ∷ n / 65536 % 256 ∷ n / 16777216 % 256 ∷ []

-- DEV_DEP_MSG_OUT: MsgID 1, the tag, its inverse, 0; TransferSize; the attributes, of which bit 0 is EOM; three zeros
abbrev pub header : ℕ → ℕ → ℕ → List ℕ
header tag size end = (1 ∷ tag ∷ (255 - tag) ∷ 0 ∷ []) ++ four_bytes size ++ (end ∷ 0 ∷ 0 ∷ 0 ∷ [])

-- the header, the data, its alignment
abbrev pub transfer : ℕ → Piece → List ℕ
transfer end p = header p.tag (length p.bytes) end ++ (p.bytes ++ p.alignment)

-- ** packets

-- packets of `size` bytes, with the rest last; `most` is a number of packets that is not passed
unfoldable pub cut_up : ℕ → ℕ → List ℕ → List (List ℕ)
cut_up zero size s = []
cut_up (suc most) size [] = []
cut_up (suc most) size (b ∷ s) = take size (b ∷ s) ∷ cut_up most size (drop size (b ∷ s))

abbrev pub packets : ℕ → List ℕ → List (List ℕ)
packets size s = cut_up (length s) size s

-- EOM: 1 in the last transfer, 0 in one that others follow
abbrev pub mark : List Piece → ℕ
mark [] = 1
mark (p ∷ ps) = 0

-- ALL THAT IS SENT: the transfers one behind the other, each with the empty packets before it
unfoldable pub sending : ℕ → List Piece → List (List ℕ)
sending size [] = []
sending size (p ∷ ps) = replicate p.empties [] ++ (packets size (transfer (mark ps) p) ++ sending size ps)

-- ** the other headers, each a packet of twelve bytes

-- TRIGGER: MsgID 128, the tag, its inverse, 0 and eight more
pub record IsTrigger (s : List ℕ) : Type 0 where
  pub tag : ℕ
  pub some : 1 ≤ tag
  pub fits : tag ≤ 255
  pub bytes : s ≡ 128 ∷ tag ∷ (255 - tag) ∷ 0 ∷ 0 ∷ 0 ∷ 0 ∷ 0 ∷ 0 ∷ 0 ∷ 0 ∷ 0 ∷ []

-- what a REQUEST asks for: its tag, how many bytes at most, whether to stop at a TermChar, and the byte that is one where that is so
pub record Request : Type 0 where
  pub tag : ℕ
  pub size : ℕ
  pub attributes : ℕ
  pub char : ℕ

-- REQUEST_DEV_DEP_MSG_IN: MsgID 2, the tag, its inverse, 0; TransferSize; the attributes, of which bit 1 is TermCharEnabled; TermChar; two zeros
abbrev pub request_bytes : Request → List ℕ
request_bytes r = (2 ∷ r.tag ∷ (255 - r.tag) ∷ 0 ∷ []) ++ four_bytes r.size ++ (r.attributes ∷ r.char ∷ 0 ∷ 0 ∷ [])

pub record GoodRequest (r : Request) : Type 0 where
  pub tag_some : 1 ≤ r.tag
  pub tag_fits : r.tag ≤ 255
  pub size_some : 1 ≤ r.size
  pub size_fits : r.size ≤ 4294967295
  pub flag : (r.attributes ≡ 0) ⊎ (r.attributes ≡ 2)

pub record IsRequest (s : List ℕ) : Type 0 where
  pub request : Request
  pub good : GoodRequest request
  pub bytes : s ≡ request_bytes request

-- packets that bring nothing of a command: each is empty, a REQUEST or a TRIGGER
abbrev pub Others : List (List ℕ) → Type 0
Others [] = Unit {0}
Others (s ∷ ss) = ((s ≡ []) ⊎ (IsRequest s ⊎ IsTrigger s)) × Others ss
