use Rattle.std.proofs.Common.{ℕ, ◌≡◌, ◌∙◌, List, arith, inl, inr, sym}
use Rattle.std.proofs.lemmas.Grind.{common_steps}
use Rattle.std.proofs.lemmas.List.{take_rest}
use Rattle.packet_capture.specs.Capture.{BeginsWithFileHeader, FileReading, HasOtherVersion, ReadsFileHeader, magic_of}
use Rattle.packet_capture.proofs.capture.FileHeader.from_slice.Goals as goal

-- a file is read in one way
once : (file : List ℕ) (a b : FileReading) → ReadsFileHeader file a → ReadsFileHeader file b → b ≡ a
once file a b p q = grind arith

pub returns-then-major-ne2 : goal.returns-then-major-ne2
returns-then-major-ne2 c =
    let magic : c.from_be_bytes-magic.result ≡ magic_of c.args.file.now = grind (arith, common_steps) in
    let reads : HasOtherVersion c.args.file.now _ _ = record {
      enough = c.if-file-lt-LEN.false;
      format = c.in-Some.format;
      magic = sym (rw magic at c.in-Some.ensures.value);
      major = c.u16_of-major.ensures.value;
      minor = c.u16_of-minor.ensures.value;
      other = elim c.then-major-ne2.either [ inl a ↦ inl a | inr b ↦ inr b.1 ];
    } in
    record { reads = reads; only = λ other o. once _ _ other reads o }

pub returns : goal.returns
returns c =
    let magic : c.from_be_bytes-magic.result ≡ magic_of c.args.file.now = grind (arith, common_steps) in
    let reads : BeginsWithFileHeader c.args.file.now _ _ = record {
      enough = c.if-file-lt-LEN.false;
      magic = sym (rw magic at c.in-Some.ensures.value);
      major = sym c.u16_of-major.ensures.value ∙ c.if-major-ne2.false;
      minor = sym c.u16_of-minor.ensures.value ∙ c.if-minor-ne4.false;
      snap_len = c.u32_of.ensures.value;
      link_type = c.u32_of-2.ensures.value;
      after = take_rest c.args.file.now 24;
    } in
    record { reads = reads; only = λ other o. once _ _ other reads o }
