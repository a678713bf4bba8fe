-- A block that is cut off.
use Rattle.std.proofs.Common.{ℕ, ◌≡◌, ◌≢◌, ◌<◌, ◌⊎◌, inl, inr, List, length, Ok, Err, ap, refl, sym, ◌∙◌, arith}
use Rattle.packet_capture.specs.Any.{RefusesBlock}
use Rattle.packet_capture.specs.Capture.{IsCutOff}
use Rattle.packet_capture.specs.Pcapng.Blocks.{HeadReading, IsFrontCutOff, ReadsBody, ReadsHead, for_body, for_head, for_length, front_len}
use Rattle.packet_capture.specs.Pcapng.Blocks as blocks
use Rattle.packet_capture.specs.Pcapng.Interfaces.{InterfaceReading, ReadsOptions, ends, is_wrong, none_left, reaches_past, tells, with_option}
use Rattle.packet_capture.specs.Skip.{HasBlockFront, ReadsBlockFront}
use Rattle.packet_capture.specs.declared.any.Capture.{Capture}
use Rattle.packet_capture.specs.declared.any.Capture.TheVariants.{Pcap, Pcapng}
use Rattle.packet_capture.specs.declared.capture.ByteOrder.{ByteOrder}
use Rattle.packet_capture.specs.declared.capture.CutOff as cut
use Rattle.packet_capture.specs.declared.pcapng.blocks.BlockError.{BlockError}
use Rattle.packet_capture.specs.declared.pcapng.blocks.BlockError.TheVariants as error
use Rattle.packet_capture.specs.declared.pcapng.blocks.BlockHead.{BlockHead}
use Rattle.packet_capture.specs.declared.pcapng.blocks.BlockType.{BlockType}
use Rattle.packet_capture.specs.declared.pcapng.blocks.BlockType.TheVariants as type
use Rattle.packet_capture.specs.declared.pcapng.blocks.Section.{Section}
use Rattle.packet_capture.specs.declared.pcapng.interfaces.Interface.{Interface}
use Rattle.packet_capture.specs.declared.skip.BlockFront.{BlockFront}
use Rattle.packet_capture.proofs.Fronts.{front_len-most}
use Rattle.packet_capture.proofs.Once.{head_once}

option_not_cut_off : (order : ByteOrder) (place code : ℕ) (value : List ℕ) (interface : Interface) (e : cut.CutOff) → with_option order place code value interface ≢ Err (error.CutOff e)
option_not_cut_off order place code value interface e same = grind arith

options_not_cut_off : {order : ByteOrder} {block : List ℕ} {place : ℕ} {interface : Interface} {answer : InterfaceReading} → ReadsOptions order block place interface answer → (e : cut.CutOff) → answer ≢ Err (error.CutOff e)
options_not_cut_off (none_left past) e same = grind arith
options_not_cut_off (ends left is) e same = grind arith
options_not_cut_off (reaches_past has past) e same = grind arith
options_not_cut_off {order = order} {interface = interface} (is_wrong {place = place} {code = code} has within wrong) e same = option_not_cut_off order place code _ interface e (wrong ∙ same)
options_not_cut_off (tells has within next rest) e same = options_not_cut_off rest e same

-- what a whole block says is not refused as cut off
body_not_cut_off : (of : BlockType) (before : Section) (order : ByteOrder) (block : List ℕ) (e : cut.CutOff) → ReadsBody of before order block (Err (error.CutOff e)) → ⊥
body_not_cut_off type.SectionHeader before order block e b = let same = b.1 in grind arith
body_not_cut_off type.InterfaceDescription before order block e b = elim b [
  | inl full ↦ (let same = full.1 in grind arith)
  | inr wrong ↦ options_not_cut_off wrong.1 e refl
]
body_not_cut_off (type.Packet of) before order block e b = b
body_not_cut_off (type.Other number) before order block e b = grind arith

-- a block of pcapng is cut off before its length is known, or after it
cut_off_of : (section : Section) (s : List ℕ) (e : cut.CutOff) → blocks.RefusesBlock section s (error.CutOff e)
    → IsFrontCutOff s e ⊎ ((head : BlockHead) × ReadsHead section s (Ok head) × IsCutOff head.total_len s e)
cut_off_of section s e (for_head h) = inl h
cut_off_of section s e (for_length {head = head} h w) = inr (head, h, w)
cut_off_of section s e (for_body {head = head} {block = block} h w b) = absurd (body_not_cut_off head.block_type section head.order block e b)

required_is : (required : ℕ) (s : List ℕ) (e : cut.CutOff) → IsCutOff required s e → e.required_len ≡ required
required_is required s e c = ap (λ x. x.required_len) c.error

is_short : (required : ℕ) (s : List ℕ) (e : cut.CutOff) → IsCutOff required s e → length s < e.required_len
is_short required s e c = omega (arith, c.short, required_is required s e c)

-- there are fewer bytes than are required
pub cut_off_short : (capture : Capture) (s : List ℕ) (e : cut.CutOff) → RefusesBlock capture s (error.CutOff e) → length s < e.required_len
cut_off_short (Pcap header) s e r = elim r [
  | inl c ↦ is_short _ s e c.1
  | inr c ↦ is_short _ s e c.1
]
cut_off_short (Pcapng section) s e r = elim (cut_off_of section s e r.1) [
  | inl front ↦ elim front [
    | inl c ↦ is_short _ s e c
    | inr c ↦ is_short _ s e c.1
  ]
  | inr x ↦ is_short _ s e x.2
]

-- if more bytes are required than tell the length, the head of the block is there, and they are its
-- length
length_known : (section : Section) (s : List ℕ) (e : cut.CutOff) → blocks.RefusesBlock section s (error.CutOff e) → 16 < e.required_len
    → (head : BlockHead) × ReadsHead section s (Ok head) × (e.required_len ≡ head.total_len)
length_known section s e r more = elim (cut_off_of section s e r) [
  | inl front ↦ elim front [
    | inl c ↦ absurd (omega (arith, more, required_is _ s e c))
    | inr c ↦ absurd (omega (arith, more, required_is _ s e c.1, front_len-most s))
  ]
  | inr x ↦ (x.0, x.1, required_is _ s e x.2)
]

ok_head : (a b : BlockHead) (x y : HeadReading) → x ≡ Ok a → y ≡ Ok b → x ≡ y → a ≡ b
ok_head a b x y p q same = grind arith

-- the front of a block that is cut off there says its length
pub cut_off_len : (capture : Capture) (s : List ℕ) (e : cut.CutOff) (front : BlockFront) → RefusesBlock capture s (error.CutOff e) → 16 < e.required_len → HasBlockFront capture s front → front.len ≡ e.required_len
cut_off_len (Pcap header) s e front r more has = elim r [
  | inl c ↦ absurd (omega (arith, more, required_is _ s e c.1))
  | inr c ↦ ap (λ f. f.len) has ∙ sym (required_is _ s e c.1)
]
cut_off_len (Pcapng section) s e front r more has =
    let known = length_known section s e r.1 more in
    let same = ok_head has.head known.0 (Ok has.head) (Ok known.0) refl refl (head_once section s (Ok known.0) (Ok has.head) known.1 has.reads) in
    has.is_len ∙ ap (λ h. h.total_len) same ∙ sym known.2

-- and it is not refused
pub cut_off_front : (capture : Capture) (s : List ℕ) (e : cut.CutOff) (other : BlockError) → RefusesBlock capture s (error.CutOff e) → 16 < e.required_len → ReadsBlockFront capture s (Err other) → ⊥
cut_off_front (Pcap header) s e other r more refused = refused
cut_off_front (Pcapng section) s e other r more refused =
    let known = length_known section s e r.1 more in
    let same = head_once section s (Ok known.0) (Err other) known.1 refused in
    grind arith
