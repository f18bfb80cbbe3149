use Rattle.c_out.proofs.packet.accepts.Goals as goal

pub message-requires : goal.message-requires
message-requires c = rw c.in-Message.is at c.requires

pub request-requires : goal.request-requires
request-requires c = rw c.in-Request.is at c.requires

pub trigger-requires : goal.trigger-requires
trigger-requires c = rw c.in-Trigger.is at c.requires
