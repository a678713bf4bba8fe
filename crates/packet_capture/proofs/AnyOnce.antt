-- A block of a capture in either format is read in one way.
use Rattle.std.proofs.Common.{ℕ, ◌≡◌, ◌∙◌, List, Some, None, Ok, Err, ap, option_map}
use Rattle.std.specs.Result.{result_map_both}
use Rattle.packet_capture.specs.Any.{NextReading, ReadsNext, head_of_record, packet, said_of}
use Rattle.packet_capture.specs.Capture.{ReadsRecord, RecordReading}
use Rattle.packet_capture.specs.Pcapng.Blocks.{BlockReading, ReadsBlock}
use Rattle.packet_capture.specs.declared.any.Capture.TheVariants.{Pcap, Pcapng}
use Rattle.packet_capture.specs.declared.capture.FileHeader.{FileHeader}
use Rattle.packet_capture.specs.declared.pcapng.blocks.BlockError.TheVariants as error
use Rattle.packet_capture.specs.declared.pcapng.blocks.Section.{Section}

-- the reading of a block of pcapng, as that of a block of a capture
abbrev pub of_blocks : BlockReading → NextReading
of_blocks a = result_map_both (λ next. option_map (λ x. (Pcapng x.0, said_of x.1, x.2)) next) (λ e. e) a

-- the reading of a record
abbrev pub of_records : FileHeader → List ℕ → RecordReading → NextReading
of_records header s a = result_map_both (λ next. option_map (λ x. (Pcap header, packet (head_of_record header s) x.0.bytes, x.1)) next) (λ e. error.CutOff e) a

pub once_of_blocks : (before : Section) (s : List ℕ) (a : BlockReading) → ((b : BlockReading) → ReadsBlock before s b → b ≡ a) → (b : NextReading) → ReadsNext (Pcapng before) s b → b ≡ of_blocks a
once_of_blocks before s a only (Ok (Some (Pcap header, found, rest))) r = absurd r
once_of_blocks before s a only (Ok (Some (Pcapng after, found, rest))) r =
    ap (λ f. Ok (Some (Pcapng after, f, rest))) r.of ∙ ap of_blocks (only (Ok (Some (after, r.says, rest))) r.begins)
once_of_blocks before s a only (Ok None) r = ap of_blocks (only (Ok None) r)
once_of_blocks before s a only (Err e) r = ap of_blocks (only (Err e) r)

pub once_of_records : (header : FileHeader) (s : List ℕ) (a : RecordReading) → ((b : RecordReading) → ReadsRecord header s b → b ≡ a) → (b : NextReading) → ReadsNext (Pcap header) s b → b ≡ of_records header s a
once_of_records header s a only (Ok (Some (Pcap same, found, rest))) r =
    ap (λ h. Ok (Some (Pcap h, found, rest))) r.0 ∙ (ap (λ f. Ok (Some (Pcap header, f, rest))) r.1.says ∙ ap (of_records header s) (only (Ok (Some (r.1.recorded, rest))) r.1.begins))
once_of_records header s a only (Ok (Some (Pcapng after, found, rest))) r = absurd r
once_of_records header s a only (Ok None) r = ap (of_records header s) (only (Ok None) r)
once_of_records header s a only (Err (error.CutOff e)) r = ap (of_records header s) (only (Err e) r)
once_of_records header s a only (Err e) r = absurd r
