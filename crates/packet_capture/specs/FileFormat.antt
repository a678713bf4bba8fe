-- The formats that the first four bytes of a file name, read with the high byte first.
use Rattle.std.specs.Prelude.{ℕ, ◌/◌, ◌^◌, Option, Some, None, if◌then◌else◌, nat_eq}
use Rattle.packet_capture.specs.declared.file_format.FileFormat.{FileFormat}
use Rattle.packet_capture.specs.declared.file_format.FileFormat.TheVariants as format

-- A line a format. Where a format has fewer than four fixed bytes, the others do not count.
unfoldable pub format_named : ℕ → Option FileFormat
format_named magic =
    if nat_eq magic 0x0a0d0d0a then Some format.Pcapng
    else if nat_eq magic 0xa1b2c3d4 then Some format.Pcap
    else if nat_eq magic 0xd4c3b2a1 then Some format.Pcap
    else if nat_eq magic 0xa1b23c4d then Some format.Pcap
    else if nat_eq magic 0x4d3cb2a1 then Some format.Pcap
    else if nat_eq magic 0xa1b2cd34 then Some format.ModifiedPcap
    else if nat_eq magic 0x34cdb2a1 then Some format.ModifiedPcap
    else if nat_eq magic 0x736e6f6f then Some format.Snoop
    else if nat_eq (magic / 2 ^ 16) 0x1f8b then Some format.Gzip
    else if nat_eq magic 0x28b52ffd then Some format.Zstandard
    else if nat_eq magic 0xfd377a58 then Some format.Xz
    else if nat_eq (magic / 2 ^ 8) 0x425a68 then Some format.Bzip2
    else if nat_eq magic 0x04224d18 then Some format.Lz4
    else if nat_eq magic 0x504b0304 then Some format.Zip
    else None
