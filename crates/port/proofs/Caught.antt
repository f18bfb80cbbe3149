-- For each clause of soundness, a state that it catches: sound but for that clause. The bases are sound, and every other row is not; take a
-- clause out of `sound`, and its row no longer holds.
-- Assumes nothing.
use Prim.Native.Nat.{ℕ}
use mathlib.Core.Path.{◌≡◌, refl}
use mathlib.Core.Bool.{true, false}
use mathlib.Core.List.{List, [], ◌∷◌, map}
use lib.ListN.{replicate}
use Rattle.port.specs.Parts.{transfer_in}
use Rattle.port.specs.Sound.{sound}
use Rattle.port.specs.declared.types.Port.{Port}
use Rattle.port.specs.declared.types.BulkOut.{BulkOut}
use Rattle.port.specs.declared.types.BulkIn.{BulkIn}
use Rattle.port.specs.declared.types.InterruptIn.{InterruptIn}
use Rattle.port.specs.declared.types.Split.{Split}
use Rattle.port.specs.declared.types.Split.TheVariants.{None, AbortOut, AbortIn, Clear}
use Rattle.port.specs.declared.types.Remote.TheVariants.{Locs}
use Rattle.port.specs.declared.types.State.{State}
use Rattle.port.proofs.Opened.{computed}

-- packet size, configured, REN
abbrev port : ℕ → ℕ → ℕ → Port
port packet configured ren = record { setting = record { packet = packet }; configured = configured; ren = ren }

-- halted, ready, most recent tag; held, left, got, end
abbrev out : ℕ → ℕ → ℕ → ℕ → ℕ → ℕ → ℕ → BulkOut
out halted ready recent held left got end =
    record { message = record { held = held; ready = ready }; transfer = record { left = left; got = got; end = end }; halted = halted; recent = recent }

-- halted, most recent tag, place, unsent; phase, tag, asked, enabled, term, left, sent
abbrev inward : ℕ → ℕ → ℕ → ℕ → ℕ → ℕ → ℕ → ℕ → ℕ → ℕ → ℕ → BulkIn
inward halted recent at unsent phase tag asked enabled term left sent =
    record { reply = record { at = at; unsent = unsent }; transfer = transfer_in phase tag asked enabled term left sent; halted = halted; recent = recent }

-- status byte; first and second byte of the packet that waits; halted
abbrev interrupt : ℕ → ℕ → ℕ → ℕ → InterruptIn
interrupt status notify1 notify2 halted = record { status = status; waiting = record { notify1 = notify1; notify2 = notify2 }; halted = halted }

abbrev whole : Port → BulkOut → BulkIn → InterruptIn → Split → State
whole p o b i s = record { small = record { port = p; bulkout = o; bulkin = b; interrupt = i }; split = s; remote = Locs }

abbrev state : Port → BulkOut → BulkIn → Split → State
state p o b s = whole p o b (interrupt 0 0 0 0) s

-- ** sound parts to start from

abbrev fine : Port
fine = port 64 1 0

abbrev resting : BulkOut
resting = out 0 0 0 0 0 0 0

abbrev closed : BulkIn
closed = inward 0 0 0 0 0 0 0 0 0 0 0

abbrev owing : BulkIn
owing = inward 0 1 0 0 3 1 0 0 0 0 0

abbrev of_port : Port → State
of_port p = state p resting closed None

abbrev of_out : BulkOut → State
of_out o = state fine o closed None

abbrev of_in : BulkIn → State
of_in b = state fine resting b None

abbrev of_interrupt : InterruptIn → State
of_interrupt i = whole fine resting closed i None

unfoldable pub good : List State
good =
    of_port fine
    ∷ of_port (port 512 0 1)
    -- a transfer open, a message ready, one halted with a ready message, one unfinished
    ∷ of_out (out 0 0 1 52 48 52 1)
    ∷ of_out (out 0 1 1 1024 0 0 0)
    ∷ of_out (out 1 1 1 6 0 0 0)
    ∷ of_out (out 0 0 1 7 0 0 0)
    -- a reply stored, asked for, on its way, its closing packet to come
    ∷ of_in (inward 0 0 24 1000 0 0 0 0 0 0 0)
    ∷ of_in (inward 0 1 0 100 1 1 1024 1 10 0 0)
    ∷ of_in (inward 0 1 52 48 2 1 0 0 0 48 52)
    ∷ of_in (inward 0 1 52 0 2 1 0 0 0 0 52)
    -- a status byte with no packet; a service request, one more kept behind it; the packets of the least and the largest tag, halted
    ∷ of_interrupt (interrupt 0xBF 0 0 0)
    ∷ of_interrupt (interrupt 0x10 0x81 0x50 0)
    ∷ of_interrupt (interrupt 0x51 0x81 0x50 0)
    ∷ of_interrupt (interrupt 0x10 0x82 0x10 1)
    ∷ of_interrupt (interrupt 0x50 0xFF 0xBF 1)
    -- the splits
    ∷ state fine (out 1 0 1 0 0 0 0) closed (AbortOut 1024)
    ∷ state fine resting owing (AbortIn 1024)
    ∷ state fine resting closed (AbortIn 0)
    ∷ state fine (out 1 0 0 0 0 0 0) closed Clear
    ∷ state fine (out 1 0 0 0 0 0 0) (inward 1 0 0 0 3 1 0 0 0 0 0) Clear
    ∷ []

unfoldable pub bad : List State
bad =
    -- the port
    of_port (port 65 1 0)
    ∷ of_port (port 64 2 0)
    ∷ of_port (port 64 1 2)
    -- a transfer open: halted, ready, its end mark, its tag, nothing got, more got than held, no room
    ∷ of_out (out 1 0 1 52 48 52 1)
    ∷ of_out (out 0 1 1 52 48 52 1)
    ∷ of_out (out 0 0 1 52 48 52 2)
    ∷ of_out (out 0 0 0 52 48 52 1)
    ∷ of_out (out 0 0 1 52 48 0 1)
    ∷ of_out (out 0 0 1 51 48 52 1)
    ∷ of_out (out 0 0 1 1025 48 52 1)
    ∷ of_out (out 0 0 1 980 48 52 1)
    -- between transfers: two flags, an end mark and a count left over, too much held, ready with nothing, a part behind a halt
    ∷ of_out (out 2 0 0 0 0 0 0)
    ∷ of_out (out 0 2 0 0 0 0 0)
    ∷ of_out (out 0 0 0 0 0 0 1)
    ∷ of_out (out 0 0 0 0 0 1 0)
    ∷ of_out (out 0 0 0 1025 0 0 0)
    ∷ of_out (out 0 1 0 0 0 0 0)
    ∷ of_out (out 1 0 0 7 0 0 0)
    -- the reply: the halt's flag, the place, the bytes behind it
    ∷ of_in (inward 2 0 0 0 0 0 0 0 0 0 0)
    ∷ of_in (inward 0 0 1025 0 0 0 0 0 0 0 0)
    ∷ of_in (inward 0 0 25 1000 0 0 0 0 0 0 0)
    -- closed, with something left over: the tag, what was asked, what was on its way; and a phase that is none
    ∷ of_in (inward 0 0 0 0 0 1 0 0 0 0 0)
    ∷ of_in (inward 0 0 0 0 0 0 1 0 0 0 0)
    ∷ of_in (inward 0 0 0 0 0 0 0 1 0 0 0)
    ∷ of_in (inward 0 0 0 0 0 0 0 0 1 0 0)
    ∷ of_in (inward 0 0 0 9 0 0 0 0 0 1 0)
    ∷ of_in (inward 0 0 0 0 0 0 0 0 0 0 1)
    ∷ of_in (inward 0 0 0 0 4 0 0 0 0 0 0)
    -- asked: no tag, nothing asked, too much, the flag, a TermChar that is not enabled, bytes on their way
    ∷ of_in (inward 0 1 0 100 1 0 1024 1 10 0 0)
    ∷ of_in (inward 0 1 0 100 1 1 0 1 10 0 0)
    ∷ of_in (inward 0 1 0 100 1 1 1025 1 10 0 0)
    ∷ of_in (inward 0 1 0 100 1 1 1024 2 10 0 0)
    ∷ of_in (inward 0 1 0 100 1 1 1024 0 10 0 0)
    ∷ of_in (inward 0 1 0 100 1 1 1024 1 10 1 0)
    ∷ of_in (inward 0 1 0 100 1 1 1024 1 10 0 1)
    -- sending: no tag, more to go than there is, counts that no store holds, something still asked
    ∷ of_in (inward 0 1 52 48 2 0 0 0 0 48 52)
    ∷ of_in (inward 0 1 52 47 2 1 0 0 0 48 52)
    ∷ of_in (inward 0 1 52 48 2 1 0 0 0 0 1025)
    ∷ of_in (inward 0 1 52 48 2 1 0 0 0 48 977)
    ∷ of_in (inward 0 1 52 48 2 1 1 0 0 48 52)
    -- owed: no tag, something left over
    ∷ state fine resting (inward 0 1 0 0 3 0 0 0 0 0 0) (AbortIn 0)
    ∷ state fine resting (inward 0 1 0 0 3 1 1 0 0 0 0) (AbortIn 0)
    -- Interrupt-IN: the halt's flag, with no packet and with one; a second byte and no first; a service request with bit 6 off, a status byte that was read with
    -- bit 6 on; first bytes that are no packet's; bit 6 on with no packet waiting
    ∷ of_interrupt (interrupt 0 0 0 2)
    ∷ of_interrupt (interrupt 0 0x81 0x50 2)
    ∷ of_interrupt (interrupt 0 0 1 0)
    ∷ of_interrupt (interrupt 0 0x81 0x10 0)
    ∷ of_interrupt (interrupt 0 0x82 0x50 0)
    ∷ of_interrupt (interrupt 0 0x80 0x10 0)
    ∷ of_interrupt (interrupt 0 0x01 0x50 0)
    ∷ of_interrupt (interrupt 0x40 0 0 0)
    -- a packet owed with no split, or in abort-OUT; an abort-OUT that does not halt; counts that no store holds
    ∷ state fine resting owing None
    ∷ state fine (out 1 0 1 0 0 0 0) owing (AbortOut 0)
    ∷ state fine resting closed (AbortOut 0)
    ∷ state fine (out 1 0 1 0 0 0 0) closed (AbortOut 1025)
    ∷ state fine resting closed (AbortIn 1025)
    -- a clear: not halted, a message held, a tag, a reply, a tag, a transfer open with no packet owed
    ∷ state fine resting closed Clear
    ∷ state fine (out 1 1 0 6 0 0 0) closed Clear
    ∷ state fine (out 1 0 1 0 0 0 0) closed Clear
    ∷ state fine (out 1 0 0 0 0 0 0) (inward 0 0 0 1 0 0 0 0 0 0 0) Clear
    ∷ state fine (out 1 0 0 0 0 0 0) (inward 0 1 0 0 0 0 0 0 0 0 0) Clear
    ∷ state fine (out 1 0 0 0 0 0 0) (inward 0 0 0 0 1 1 1 0 0 0 0) Clear
    ∷ []

pub good_sound : map sound good ≡ replicate 20 true
unfolding computed good
good_sound = refl

pub bad_caught : map sound bad ≡ replicate 61 false
unfolding computed bad
bad_caught = refl
