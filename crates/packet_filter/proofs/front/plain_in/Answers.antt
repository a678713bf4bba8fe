use Rattle.packet_filter.proofs.Carried.{plain}
use Rattle.packet_filter.proofs.front.plain_in.Goals as goal

pub returns-in-None-stop : goal.returns-in-None-stop
returns-in-None-stop c = record { found = plain _ _ _ _ c.in-Some.ensures.found c.in-Some.ensures.whole c.in-Some.ensures.carries_ip c.in-Ok.ensures.found c.in-None-stop.is c.are_bytes.ensures.are_bytes }
