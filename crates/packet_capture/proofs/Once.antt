-- Each reading has one answer.
use Rattle.std.proofs.Common.{ℕ, ◌≡◌, ◌≤◌, List, Result, Ok, Err, Some, None, arith, subst, sym, ◌∙◌, ap, refl, drop, length, lit≤, inl, inr}
use Rattle.packet_capture.specs.declared.capture.ByteOrder.{ByteOrder}
use Rattle.packet_capture.specs.declared.pcapng.blocks.BlockError.{BlockError}
use Rattle.packet_capture.specs.declared.pcapng.blocks.BlockHead.{BlockHead}
use Rattle.packet_capture.specs.declared.pcapng.blocks.BlockType.{BlockType}
use Rattle.packet_capture.specs.declared.pcapng.blocks.Section.{Section}
use Rattle.packet_capture.specs.declared.pcapng.interfaces.Interface.{Interface}
use Rattle.packet_capture.specs.declared.pcapng.packets.PacketType.{PacketType}
use Rattle.packet_capture.specs.declared.pcapng.blocks.BlockType.TheVariants.{InterfaceDescription, Other, Packet, SectionHeader}
use Rattle.packet_capture.specs.declared.pcapng.packets.PacketType.TheVariants.{Enhanced, Obsolete, Simple}
use Rattle.packet_capture.specs.Pcapng.Blocks.{AddsInterface, BeginsWithBlock, ReadsSection, Said, TellsPacket, BlockReading, BodyReading, HeadReading, ReadsBlock, ReadsBody, ReadsHead, ReadsWhole, RefusesBlock, WholeReading, for_body, for_head, for_length, least_len}
use Rattle.packet_capture.specs.Pcapng.Interfaces.{InterfaceReading, ReadsOptions, after_option, ends, is_wrong, none_left, reaches_past, tells}
use Rattle.packet_capture.specs.Pcapng.Packets.{PacketReading, ReadsPacket}

pub head_once : (section : Section) (s : List ℕ) (a b : HeadReading) → ReadsHead section s a → ReadsHead section s b → b ≡ a
head_once section s a b p q = grind arith

pub whole_once : (head : BlockHead) (s : List ℕ) (a b : WholeReading) → ReadsWhole head s a → ReadsWhole head s b → b ≡ a
whole_once head s a b p q = grind arith

pub packet_once : (type : PacketType) (order : ByteOrder) (interfaces : List Interface) (total_len : ℕ) (block : List ℕ) (a b : PacketReading)
    → ReadsPacket type order interfaces total_len block a → ReadsPacket type order interfaces total_len block b → b ≡ a
packet_once type order interfaces total_len block a b p q = grind arith

pub options_once : {order : ByteOrder} {block : List ℕ} {place : ℕ} {interface : Interface} {a b : InterfaceReading}
    → ReadsOptions order block place interface a → ReadsOptions order block place interface b → b ≡ a
options_once (none_left h) (none_left i) = refl
options_once (none_left h) (ends i e) = absurd (omega arith)
options_once (none_left h) (reaches_past n i) = absurd (omega arith)
options_once (none_left h) (is_wrong n i v) = absurd (omega arith)
options_once (none_left h) (tells n i v more) = absurd (omega arith)
options_once (ends h e) (none_left i) = absurd (omega arith)
options_once (ends h e) (ends i f) = refl
options_once (ends h e) (reaches_past n i) = absurd (n.goes_on (n.is_code ∙ e))
options_once (ends h e) (is_wrong n i v) = absurd (n.goes_on (n.is_code ∙ e))
options_once (ends h e) (tells n i v more) = absurd (n.goes_on (n.is_code ∙ e))
options_once (reaches_past o h) (none_left i) = absurd (omega arith)
options_once (reaches_past o h) (ends i e) = absurd (o.goes_on (o.is_code ∙ e))
options_once (reaches_past o h) (reaches_past n i) = cc
options_once (reaches_past o h) (is_wrong n i v) = absurd (omega arith)
options_once (reaches_past o h) (tells n i v more) = absurd (omega arith)
options_once (is_wrong o h w) (none_left i) = absurd (omega arith)
options_once (is_wrong o h w) (ends i e) = absurd (o.goes_on (o.is_code ∙ e))
options_once (is_wrong o h w) (reaches_past n i) = absurd (omega arith)
options_once (is_wrong o h w) (is_wrong n i v) = cc
options_once (is_wrong o h w) (tells n i v more) = cc
options_once (tells o h w rest) (none_left i) = absurd (omega arith)
options_once (tells o h w rest) (ends i e) = absurd (o.goes_on (o.is_code ∙ e))
options_once (tells o h w rest) (reaches_past n i) = absurd (omega arith)
options_once (tells o h w rest) (is_wrong n i v) = cc
options_once {order} {block} {b = b} (tells {place} {code} {len} {next = next} o h w rest) (tells {code = code'} {len = len'} {next = next'} n i v more) =
    let same_code : code ≡ code' = cc in
    let same_len : len ≡ len' = cc in
    let same_next : next ≡ next' = cc in
    let at_len = subst (λ k. ReadsOptions order block (after_option place k) next' b) (sym same_len) more in
    options_once rest (subst (λ i. ReadsOptions order block (after_option place len) i b) (sym same_next) at_len)

adds_once : (before : Section) (order : ByteOrder) (block : List ℕ) (a b : BodyReading) → AddsInterface before order block a → AddsInterface before order block b → b ≡ a
adds_once before order block (Ok x) (Ok y) p q =
    let same : Ok q.1.0 ≡ Ok p.1.0 = options_once p.1.1 q.1.1 in
    cc
adds_once before order block (Ok x) (Err e) p (inl q) = absurd (omega arith)
adds_once before order block (Ok x) (Err e) p (inr q) =
    let same : Err e ≡ Ok p.1.0 = options_once p.1.1 q.1 in
    cc
adds_once before order block (Err e) (Ok x) (inl p) q = absurd (omega arith)
adds_once before order block (Err e) (Ok x) (inr p) q =
    let same : Ok q.1.0 ≡ Err e = options_once p.1 q.1.1 in
    cc
adds_once before order block (Err e) (Err f) (inl p) (inl q) = cc
adds_once before order block (Err e) (Err f) (inl p) (inr q) = absurd (omega arith)
adds_once before order block (Err e) (Err f) (inr p) (inl q) = absurd (omega arith)
adds_once before order block (Err e) (Err f) (inr p) (inr q) =
    let same : Err f ≡ Err e = options_once p.1 q.1 in
    cc

tells_once : (of : PacketType) (before : Section) (order : ByteOrder) (block : List ℕ) (a b : BodyReading) → TellsPacket of before order block a → TellsPacket of before order block b → b ≡ a
tells_once of before order block (Ok x) (Ok y) p q =
    let same : Ok q.0 ≡ Ok p.0 = packet_once of order before.interfaces.items (length block) block (Ok p.0) (Ok q.0) p.1 q.1 in
    cc
tells_once of before order block (Ok x) (Err e) p q =
    let same : Err e ≡ Ok p.0 = packet_once of order before.interfaces.items (length block) block (Ok p.0) (Err e) p.1 q in
    cc
tells_once of before order block (Err e) (Ok x) p q =
    let same : Ok q.0 ≡ Err e = packet_once of order before.interfaces.items (length block) block (Err e) (Ok q.0) p q.1 in
    cc
tells_once of before order block (Err e) (Err f) p q =
    let same : Err f ≡ Err e = packet_once of order before.interfaces.items (length block) block (Err e) (Err f) p q in
    cc

section_once : (order : ByteOrder) (block : List ℕ) (a b : BodyReading) → ReadsSection order block a → ReadsSection order block b → b ≡ a
section_once order block a b p q = grind arith

pub body_once : (type : BlockType) (before : Section) (order : ByteOrder) (block : List ℕ) (a b : BodyReading)
    → ReadsBody type before order block a → ReadsBody type before order block b → b ≡ a
body_once SectionHeader before order block a b p q = section_once order block a b p q
body_once InterfaceDescription before order block a b p q = adds_once before order block a b p q
body_once (Packet of) before order block a b p q = tells_once of before order block a b p q
body_once (Other number) before order block a b p q = cc

-- one reading, and then another that goes on from its answer; an error of the first is that of both
data Then {A B E : Type 0} (First : Result A E → Type 0) (Second : A → Result B E → Type 0) : Result B E → Type 0 where
  stops : {e : E} → First (Err e) → Then First Second (Err e)
  goes_on : {x : A} {answer : Result B E} → First (Ok x) → Second x answer → Then First Second answer

then_once : {A B E : Type 0} {First : Result A E → Type 0} {Second : A → Result B E → Type 0}
    → ((a b : Result A E) → First a → First b → b ≡ a) → ((x : A) (a b : Result B E) → Second x a → Second x b → b ≡ a)
    → {a b : Result B E} → Then First Second a → Then First Second b → b ≡ a
then_once first second (stops {e = e} h) (stops {e = f} i) = let same : Err f ≡ Err e = first (Err e) (Err f) h i in cc
then_once first second (stops {e = e} h) (goes_on {x = x} i j) = let same : Ok x ≡ Err e = first (Err e) (Ok x) h i in cc
then_once first second (goes_on {x = x} h i) (stops {e = e} j) = let same : Ok x ≡ Err e = first (Err e) (Ok x) j h in cc
then_once {Second = Second} first second {a = a} {b = b} (goes_on {x = x} h i) (goes_on {x = y} j k) =
    let both : Ok y ≡ Ok x = first (Ok x) (Ok y) h j in
    let same : y ≡ x = cc in
    second x a b i (subst (λ z. Second z b) same k)

same_parts : {A B C : Type 0} {x y : A × B × C} → y.0 ≡ x.0 → y.1 ≡ x.1 → y.2 ≡ x.2 → y ≡ x
same_parts p q r = λ i. (p i, q i, r i)

-- what a whole block says, and the bytes after it
abbrev ReadsRest : Section → List ℕ → BlockHead → List ℕ → Result (Section × Said × List ℕ) BlockError → Type 0
ReadsRest before s head block (Ok x) = ReadsBody head.block_type before head.order block (Ok (x.0, x.1)) × (x.2 ≡ drop head.total_len s)
ReadsRest before s head block (Err e) = ReadsBody head.block_type before head.order block (Err e)

rest_once : (before : Section) (s : List ℕ) (head : BlockHead) (block : List ℕ) (a b : Result (Section × Said × List ℕ) BlockError)
    → ReadsRest before s head block a → ReadsRest before s head block b → b ≡ a
rest_once before s head block (Ok x) (Ok y) p q =
    let a : Section × Said = (x.0, x.1) in
    let b : Section × Said = (y.0, y.1) in
    let same : Ok b ≡ Ok a = body_once head.block_type before head.order block (Ok a) (Ok b) p.0 q.0 in
    let both : b ≡ a = cc in
    ap Ok (same_parts (ap (λ z. z.0) both) (ap (λ z. z.1) both) (q.1 ∙ sym p.1))
rest_once before s head block (Ok x) (Err e) p q =
    let a : Section × Said = (x.0, x.1) in
    let same : Err e ≡ Ok a = body_once head.block_type before head.order block (Ok a) (Err e) p.0 q in
    cc
rest_once before s head block (Err e) (Ok x) p q =
    let a : Section × Said = (x.0, x.1) in
    let same : Ok a ≡ Err e = body_once head.block_type before head.order block (Err e) (Ok a) p q.0 in
    cc
rest_once before s head block (Err e) (Err f) p q =
    let same : Err f ≡ Err e = body_once head.block_type before head.order block (Err e) (Err f) p q in
    cc

abbrev InOrder : Section → List ℕ → Result (Section × Said × List ℕ) BlockError → Type 0
InOrder before s = Then (ReadsHead before s) (λ head. Then (ReadsWhole head s) (λ block. ReadsRest before s head block))

in_order_once : (before : Section) (s : List ℕ) {a b : Result (Section × Said × List ℕ) BlockError} → InOrder before s a → InOrder before s b → b ≡ a
in_order_once before s p q = then_once (head_once before s) (λ head a b. then_once (whole_once head s) (rest_once before s head)) p q

begins_in_order : {before : Section} {s : List ℕ} {x : Section × Said × List ℕ} → BeginsWithBlock before s x.0 x.1 x.2 → InOrder before s (Ok x)
begins_in_order b = goes_on b.front (goes_on b.whole (b.body, b.is_rest))

refused_in_order : {before : Section} {s : List ℕ} {e : BlockError} → RefusesBlock before s e → InOrder before s (Err e)
refused_in_order (for_head h) = stops h
refused_in_order (for_length h w) = goes_on h (stops w)
refused_in_order (for_body h w b) = goes_on h (goes_on w b)

pub block_once : (before : Section) (s : List ℕ) (a b : BlockReading) → ReadsBlock before s a → ReadsBlock before s b → b ≡ a
block_once before s (Ok None) (Ok None) p q = refl
block_once before s (Ok None) (Ok (Some x)) p q = absurd (omega (arith, q.front.0.enough))
block_once before s (Ok None) (Err e) p q = absurd (omega arith)
block_once before s (Ok (Some x)) (Ok None) p q = absurd (omega (arith, p.front.0.enough))
block_once before s (Ok (Some x)) (Ok (Some y)) p q = let same : Ok y ≡ Ok x = in_order_once before s (begins_in_order p) (begins_in_order q) in cc
block_once before s (Ok (Some x)) (Err e) p q = let same : Err e ≡ Ok x = in_order_once before s (begins_in_order p) (refused_in_order q.1) in cc
block_once before s (Err e) (Ok None) p q = absurd (omega arith)
block_once before s (Err e) (Ok (Some x)) p q = let same : Ok x ≡ Err e = in_order_once before s (refused_in_order p.1) (begins_in_order q) in cc
block_once before s (Err e) (Err f) p q = let same : Err f ≡ Err e = in_order_once before s (refused_in_order p.1) (refused_in_order q.1) in cc

-- a block has at least 12 bytes
pub least_len_least : (type : BlockType) → 12 ≤ least_len type
least_len_least SectionHeader = lit≤ tt
least_len_least InterfaceDescription = lit≤ tt
least_len_least (Packet Enhanced) = lit≤ tt
least_len_least (Packet Simple) = lit≤ tt
least_len_least (Packet Obsolete) = lit≤ tt
least_len_least (Other number) = lit≤ tt
