-- How a router with queues serves the known code points.
use Rattle.etherparse.specs.declared.IpDscpKnown.{IpDscpKnown}
use Rattle.etherparse.specs.declared.IpDscpKnown.TheVariants as known
use Rattle.uses.specs.declared.queue.Queue.{Queue}
use Rattle.uses.specs.declared.queue.Queue.TheVariants as queue

-- voice and what is forwarded like it go first, and what asks for less goes last
abbrev pub queue_for : IpDscpKnown → Queue
queue_for known.ExpeditedForwarding = queue.First
queue_for known.VoiceAdmit = queue.First
queue_for known.LowerEffort = queue.Last
queue_for _ = queue.Usual
