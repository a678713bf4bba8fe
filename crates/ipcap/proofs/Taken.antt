-- A packet is told as it came, or as the one that it completes.
use Rattle.std.proofs.Common.{ℕ, ◌≡◌, List, [], Option, Some, None, Result, Ok, Err, IfErr, MatchOption, refl}
use Rattle.frame_reassembly.specs.declared.datagrams.Datagrams.{Datagrams}
use Rattle.packet.specs.Link.{link_type_of}
use Rattle.packet.specs.declared.link.LinkType.{LinkType}
use Rattle.packet_capture.specs.Any as said
use Rattle.packet_capture.specs.declared.any.PacketHead.{PacketHead}
use Rattle.ipcap.specs.Private.Progress.{Because, TellsFrame, TellsSaid}
use Rattle.ipcap.specs.Reassembled.{Memory, Reassembles, Stays, Takes, seen_as}
use Rattle.ipcap.specs.Totals.{HasRoom, packet}
use Rattle.ipcap.specs.declared.failure.Failure.{Failure}
use Rattle.ipcap.specs.declared.failure.Failure.TheVariants as failure
use Rattle.ipcap.specs.declared.output.Output.{Output}
use Rattle.ipcap.specs.declared.request.Request.{Request}
use Rattle.ipcap.specs.declared.totals.Totals.{Totals}

-- with no slots each packet is told as it came
pub stays : (head : PacketHead) (frame : List ℕ) (t : Totals) (m : Memory) → m ≡ None → Reassembles head frame t m t m None
stays head frame t m none = rw none (record { totals = refl; memory = refl; none = refl })

room_at : (head : PacketHead) (frame : List ℕ) (t u : Totals) (old new : Memory) (whole : Option (List ℕ)) (m : Memory) (d : Option Datagrams) (l : Option LinkType)
    → MatchOption m (Stays t u old new whole) (λ slots. MatchOption d (Stays t u old new whole) (λ counts. MatchOption l (Stays t u old new whole) (λ link_type. Takes link_type head frame t u slots counts new whole)))
    → HasRoom t → HasRoom u
room_at head frame t u old new whole None d l r room = rw r.totals room
room_at head frame t u old new whole (Some slots) None l r room = rw r.totals room
room_at head frame t u old new whole (Some slots) (Some counts) None r room = rw r.totals room
room_at head frame t u old new whole (Some slots) (Some counts) (Some link_type) r room = rw r.totals room

-- a packet that is put together takes no room of the counts of packets
pub room_then : (head : PacketHead) (frame : List ℕ) (t u : Totals) (old new : Memory) (whole : Option (List ℕ)) → Reassembles head frame t old u new whole → HasRoom t → HasRoom u
room_then head frame t u old new whole r = room_at head frame t u old new whole old t.datagrams (link_type_of head.link_type) r

full_then : (Q A B : Type 0) (e : Failure) → (B → A) → Because ⊥ Q (¬ A) e ⊥ [] [] → Because ⊥ Q (¬ B) e ⊥ [] []
full_then Q A B failure.Read f b = b
full_then Q A B failure.Write f b = b
full_then Q A B failure.Count f b = (λ room. b.0 (f room), b.1)

-- no room after it is no room before it
pub failed_then : {T : Type 0} (r : Result T Failure) (Q A B : Type 0) → (B → A) → IfErr r (λ e. Because ⊥ Q (¬ A) e ⊥ [] []) → IfErr r (λ e. Because ⊥ Q (¬ B) e ⊥ [] [])
failed_then (Ok x) Q A B f b = tt
failed_then (Err e) Q A B f b = full_then Q A B e f b

module _ {W : Type 0} (contents : W → Option (List ℕ)) (request : Request) where
  -- what is seen in place of a packet is told of it
  pub told_as : (t mid u : Totals) (old new : Memory) (whole : Option (List ℕ)) (head : PacketHead) (bytes frame : List ℕ) (o m : Output W) → Reassembles head frame t old mid new whole
      → TellsFrame contents request (seen_as head frame whole).is_reassembled mid u (seen_as head frame whole).head bytes (seen_as head frame whole).frame o m
      → TellsSaid contents request t old u new (said.packet head frame) bytes o m
  told_as t mid u old new whole head bytes frame o m reassembles tells = record {
    told = packet (seen_as head frame whole).is_reassembled (seen_as head frame whole).head tells.found;
    mid = mid;
    is = record { whole = whole; reassembles = reassembles; is_mark = refl; is_head = refl; reads = tells.reads };
    counts = tells.tells.counts;
    prints = tells.tells.prints;
  }
