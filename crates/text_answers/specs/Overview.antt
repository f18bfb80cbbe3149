-- The text of the answers to `state` and `more` (vectors/README.md): the parts of a unit, on one line. Assumes nothing.
use Rattle.std.specs.Prelude.{ℕ, Bool, List, []}
use Rattle.rules.specs.Choice.{◌=ᵇ◌, ◌≠ᵇ◌, pick, first, ◌⇒◌∣◌}
use Rattle.port.specs.Parts.{on, is_owed}
use Rattle.port.specs.declared.types.Small.{Small}
use Rattle.port.specs.declared.types.Split.{Split}
use Rattle.port.specs.declared.types.Split.TheVariants.{None, AbortOut, AbortIn, Clear}
use Rattle.port.specs.declared.types.Remote.{Remote}
use Rattle.port.specs.declared.types.Remote.TheVariants.{Locs, Rems, Lwls, Rwls}
use Rattle.text_put.specs.Text.{ascii, ◌then◌}
use Rattle.text_put.specs.Numbers.{decimal_text, pair_text}

-- ** words

unfoldable pub flag_text : Bool → List ℕ
flag_text is_set = pick is_set (ascii "1") (ascii "0")

unfoldable pub halted_text : ℕ → List ℕ
halted_text halted = pick (on halted) (ascii "halted") (ascii "running")

abbrev pub remote_text : Remote → List ℕ
remote_text Locs = ascii "LOCS"
remote_text Rems = ascii "REMS"
remote_text Lwls = ascii "LWLS"
remote_text Rwls = ascii "RWLS"

abbrev pub split_text : Split → List ℕ
split_text None = ascii " split=none"
split_text (AbortOut count) = ascii " split=abort-out"
split_text (AbortIn count) = ascii " split=abort-in"
split_text Clear = ascii " split=clear"

-- ** `state`

unfoldable pub port_text : ℕ → ℕ → Remote → ℕ → List ℕ
port_text configured ren remote status =
    ascii "0 configured=" then flag_text (on configured)
    then ascii " ren=" then flag_text (on ren)
    then ascii " remote=" then remote_text remote
    then ascii " status=" then pair_text status

unfoldable pub halts_text : ℕ → ℕ → List ℕ
halts_text halted_out haltedIn = ascii " out=" then halted_text halted_out then ascii " in=" then halted_text haltedIn

-- the message that comes in: whole, a part of one, or none; a transfer that has brought no byte yet is a part of 0 bytes
unfoldable pub message_text : ℕ → ℕ → ℕ → List ℕ
message_text ready held left =
    first
    (on ready ⇒ ascii " message=ready:" then decimal_text held ∣
    held ≠ᵇ 0 ⇒ ascii " message=part:" then decimal_text held ∣
    left ≠ᵇ 0 ⇒ ascii " message=part:0" ∣
    [])
    (ascii " message=none")

-- the bytes of the reply that have not gone, the split in progress, and whether the empty packet is owed
unfoldable pub reply_text : ℕ → Split → Bool → List ℕ
reply_text unsent split owed = ascii " reply=" then decimal_text unsent then split_text split then ascii " owed=" then flag_text owed

-- the most recent tags
unfoldable pub tags_text : ℕ → ℕ → List ℕ
tags_text recentOut recentIn = ascii " tags=" then pair_text recentOut then ascii "," then pair_text recentIn

unfoldable pub overview_text : Small → Split → Remote → List ℕ
overview_text small split remote =
    port_text small.port.configured small.port.ren remote small.interrupt.status
    then halts_text small.bulkout.halted small.bulkin.halted
    then message_text small.bulkout.message.ready small.bulkout.message.held small.bulkout.transfer.left
    then reply_text small.bulkin.reply.unsent split (is_owed small.bulkin)
    then tags_text small.bulkout.recent small.bulkin.recent
    then ascii "\n"

-- ** `more`

-- the packet that waits on Interrupt-IN, by its two bytes
unfoldable pub notify_text : ℕ → ℕ → List ℕ
notify_text notify1 notify2 = pick (notify1 =ᵇ 0) (ascii " int=none") (ascii " int=" then pair_text notify1 then pair_text notify2)

unfoldable pub more_text : Small → List ℕ
more_text small =
    ascii "0 p=" then decimal_text small.port.setting.packet
    then notify_text small.interrupt.waiting.notify1 small.interrupt.waiting.notify2
    then ascii " int-endpoint=" then halted_text small.interrupt.halted
    then ascii "\n"
