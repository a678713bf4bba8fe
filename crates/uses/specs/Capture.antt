-- What a reader of captures asks of a file: its first packet with a wrong checksum.
use Rattle.std.specs.Prelude.{ℕ, ◌≡◌, ◌≢◌, ◌⊎◌, List, [], Err}
use Rattle.packet_capture.specs.Capture.{BeginsWithFileHeader, BeginsWithRecord, ReadsFileHeader}
use Rattle.packet_capture.specs.Capture.{ReadsRecord, Recorded, recorded}
use Rattle.packet_capture.specs.declared.capture.CutOff.{CutOff}
use Rattle.packet_capture.specs.declared.capture.FileHeader.{FileHeader}
use Rattle.packet_capture.specs.declared.capture.Record.{Record}
use Rattle.packet_parts.specs.Checksum.{IsVerdict}
use Rattle.packet_parts.specs.IpSlice.{IsIpPacket, RefusesIp}
use Rattle.packet_parts.specs.declared.checksum.Verdict.{Verdict}
use Rattle.packet_parts.specs.declared.checksum.Verdict.TheVariants.{Wrong}
use Rattle.packet_parts.specs.declared.ip_slice.IpSlice.{IpSlice}
use Rattle.packet_parts.specs.declared.ip_slice.IpSliceError.{IpSliceError}
use Rattle.uses.specs.declared.capture.Refusal.{Refusal}
use Rattle.uses.specs.declared.capture.Refusal.TheVariants as refusal

-- a receiver finds this of the checksum of the packet
pub record IsJudged (packet : List ℕ) (verdict : Verdict) : Type 0 where
  pub parts : IpSlice
  pub is_packet : IsIpPacket packet parts
  pub judges : IsVerdict parts verdict

-- a receiver finds something other than a wrong checksum, or the packet is not sliced
abbrev pub IsNotWrong : List ℕ → Type 0
IsNotWrong packet = ((verdict : Verdict) × IsJudged packet verdict × (verdict ≢ Wrong))
    ⊎ ((e : IpSliceError) × RefusesIp packet e)

-- What is reached in a file of IP packets with this header: what comes after the header, and after
-- whole records, one after the other, of which no packet is wrong.
pub data Reaches (file : List ℕ) (header : FileHeader) : List ℕ → Type 0 where
  after_header : {records : List ℕ} → BeginsWithFileHeader file header records
      → header.link_type ≡ 101 → Reaches file header records
  after_record : {place rest : List ℕ} {found : Recorded} → Reaches file header place
      → BeginsWithRecord header place found rest → IsNotWrong found.bytes
      → Reaches file header rest

-- the end of the file is reached
abbrev pub HasNoWrong : List ℕ → Type 0
HasNoWrong file = (header : FileHeader) × Reaches file header []

-- this record is reached, and its packet is wrong
pub record HasFirstWrong (file : List ℕ) (found : Record) : Type 0 where
  pub header : FileHeader
  pub place : List ℕ
  pub reaches : Reaches file header place
  pub rest : List ℕ
  pub begins : BeginsWithRecord header place (recorded found) rest
  pub wrong : IsJudged found.bytes.now Wrong

-- the file has another link type
pub record HasOtherLinkType (file : List ℕ) (number : ℕ) : Type 0 where
  pub header : FileHeader
  pub records : List ℕ
  pub begins : BeginsWithFileHeader file header records
  pub named : header.link_type ≡ number
  pub other : number ≢ 101

-- a record is reached that is cut off
pub record EndsInRecord (file : List ℕ) (e : CutOff) : Type 0 where
  pub header : FileHeader
  pub place : List ℕ
  pub reaches : Reaches file header place
  pub cut_off : ReadsRecord header place (Err e)

-- why a file is not read to its end
abbrev pub RefusesCapture : List ℕ → Refusal → Type 0
RefusesCapture file (refusal.Header e) = ReadsFileHeader file (Err e)
RefusesCapture file (refusal.LinkType number) = HasOtherLinkType file number
RefusesCapture file (refusal.CutOff e) = EndsInRecord file e
