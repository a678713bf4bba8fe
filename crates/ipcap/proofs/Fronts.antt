-- What is read at the front of a file is read there, whatever follows it.
use Rattle.std.proofs.Common.{ℕ, ◌≡◌, ◌≤◌, ◌⊎◌, inl, inr, List, [], ◌++◌, length, slice_range, drop, ap, subst, sym, ◌∙◌, arith, length-append, length-drop, append-nil, Ok, Err}
use Rattle.std.proofs.lemmas.List.{drop-append-le, take-append-le}
use Rattle.packet_capture.specs.Any.{IsPcapng, ReadsFront}
use Rattle.packet_capture.specs.Capture.{BeginsWithFileHeader, ReadsFileHeader, magic_of}
use Rattle.packet_capture.specs.declared.any.Capture.{Capture}
use Rattle.packet_capture.specs.declared.any.Capture.TheVariants.{Pcap, Pcapng}
use Rattle.packet_capture.specs.declared.capture.CaptureError.{CaptureError}
use Rattle.packet_capture.specs.declared.capture.CaptureError.TheVariants as capture
use Rattle.packet_capture.specs.declared.capture.FileHeader.{FileHeader}
use Rattle.ipcap.specs.Output.{header_len}
use Rattle.ipcap.specs.Private.Ended.{LacksFront}

slice_range-append : (s more : List ℕ) (i j : ℕ) → i ≤ j → j ≤ length s → slice_range (s ++ more) i j ≡ slice_range s i j
slice_range-append s more i j order within = grind (arith, drop-append-le, take-append-le, length-drop)

pub begins_with_file_header-append : (s more : List ℕ) (header : FileHeader) (rest : List ℕ)
    → BeginsWithFileHeader s header rest → BeginsWithFileHeader (s ++ more) header (rest ++ more)
begins_with_file_header-append s more header rest b = grind (arith, slice_range-append, drop-append-le, length-append)

-- no file header, whatever follows; if there are too few bytes, nothing follows
pub reads_no_file_header-append : (s more : List ℕ) (e : CaptureError) → (24 ≤ length s) ⊎ (more ≡ [])
    → ReadsFileHeader s (Err e) → ReadsFileHeader (s ++ more) (Err e)
reads_no_file_header-append s more e enough r = grind (arith, slice_range-append, length-append, append-nil)

magic_of-append : (s more : List ℕ) → 4 ≤ length s → magic_of (s ++ more) ≡ magic_of s
magic_of-append s more enough = grind (arith, slice_range-append)

is_pcapng-append : (s more : List ℕ) → IsPcapng s → IsPcapng (s ++ more)
is_pcapng-append s more is = record { enough = omega (arith, is.enough, length-append s more); magic = magic_of-append s more is.enough ∙ is.magic }

is_not_pcapng-append : (s more : List ℕ) → 4 ≤ length s → ¬ IsPcapng s → ¬ IsPcapng (s ++ more)
is_not_pcapng-append s more enough other is = other (record { enough = enough; magic = sym (magic_of-append s more enough) ∙ is.magic })

-- the front of a capture, whatever follows
pub reads_front-append : (s more : List ℕ) (found : Capture) (blocks : List ℕ) → ReadsFront s (Ok (found, blocks)) → ReadsFront (s ++ more) (Ok (found, blocks ++ more))
reads_front-append s more (Pcap header) blocks r = (is_not_pcapng-append s more (omega (arith, r.1.enough)) r.0, begins_with_file_header-append s more header blocks r.1)
reads_front-append s more (Pcapng section) blocks r = (is_pcapng-append s more r.0, r.1, ap (λ b. b ++ more) r.2)

-- what stands before the blocks is there
pub header_there : (s : List ℕ) (found : Capture) (blocks : List ℕ) → ReadsFront s (Ok (found, blocks)) → header_len found ≤ length s
header_there s (Pcap header) blocks r = r.1.enough
header_there s (Pcapng section) blocks r = omega arith

pub blocks_are : (s : List ℕ) (found : Capture) (blocks : List ℕ) → ReadsFront s (Ok (found, blocks)) → blocks ≡ drop (header_len found) s
blocks_are s (Pcap header) blocks r = r.1.after
blocks_are s (Pcapng section) blocks r = r.2

-- no capture, whatever follows; if there are too few bytes, nothing follows
pub reads_no_front-append : (s more : List ℕ) (e : CaptureError) → (¬ LacksFront s) ⊎ (more ≡ []) → ReadsFront s (Err e) → ReadsFront (s ++ more) (Err e)
reads_no_front-append s more e (inr none) r = subst (λ x. ReadsFront x (Err e)) (sym (ap (λ m. s ++ m) none ∙ append-nil s)) r
reads_no_front-append s more (capture.CutOff of) (inl enough) r = absurd (enough (of, r))
reads_no_front-append s more (capture.Magic found) (inl enough) r = (is_not_pcapng-append s more (omega (arith, r.1.enough)) r.0, reads_no_file_header-append s more (capture.Magic found) (inl r.1.enough) r.1)
reads_no_front-append s more (capture.Version major minor) (inl enough) r = (is_not_pcapng-append s more (omega (arith, r.1.enough)) r.0, reads_no_file_header-append s more (capture.Version major minor) (inl r.1.enough) r.1)
