-- What is read, taken, printed and told in parts.
use Rattle.std.proofs.Common.{ℕ, ◌^◌, min, ◌≡◌, ◌≢◌, ◌<◌, ◌≤◌, ◌+◌, ◌-◌, ◌⊎◌, inl, inr, List, [], ◌∷◌, ◌++◌, length, take, drop, ◌&&◌, Bool, true, false, Option, Some, None, Result, Ok, Err, OnErr, OnOk, refl, subst, sym, ap, ◌∙◌, append_assoc, append-nil, arith, length-append, length-drop, length-take, take-append-drop}
use Rattle.std.proofs.Math.Nat.{eq-or-lt_of_le}
use Rattle.std.proofs.Math.Seq.{drop-append-add, take-append-add, take-append_seam}
use Rattle.std.proofs.lemmas.Bool.Decides.{eqb_tells}
use Rattle.std.proofs.lemmas.List.{take-append-le}
use Rattle.std.specs.Int.{w32}
use Rattle.std.specs.Option.{is_none}
use Rattle.std.specs.Io.KnownBytes.{IsAtEnd}
use Rattle.std.proofs.KnownBytes.{Appends-nil, Appends-trans, Consumes-nil, Consumes-trans}
use Rattle.packet_capture.specs.Any.{BeginsWith, RefusesBlock, Said, head_of_record}
use Rattle.packet_capture.specs.Any as said
use Rattle.packet_capture.specs.Capture.{number_in, record_len}
use Rattle.packet_capture.specs.Skip.{CanBeSkipped, EndsRight, HasBlockFront, HasOtherEnd, front_len, front_of_record}
use Rattle.packet_capture.specs.declared.any.Capture.{Capture}
use Rattle.packet_capture.specs.declared.any.Capture.TheVariants.{Pcap, Pcapng}
use Rattle.packet_capture.specs.declared.any.PacketHead.{PacketHead}
use Rattle.packet_capture.specs.declared.capture.CutOff as cut
use Rattle.packet_capture.specs.declared.capture.FileHeader.{FileHeader}
use Rattle.packet_capture.specs.declared.pcapng.blocks.BlockError.{BlockError}
use Rattle.packet_capture.specs.declared.pcapng.blocks.BlockError.TheVariants as error
use Rattle.packet_capture.specs.declared.pcapng.blocks.BlockHead.{BlockHead}
use Rattle.packet_capture.specs.declared.skip.BlockFront.{BlockFront}
use Rattle.packet_capture.specs.declared.skip.Content.{Content}
use Rattle.packet_capture.specs.declared.skip.Content.TheVariants as content
use Rattle.packet_capture.proofs.AnyFronts.{begins_with-front, record_head-append}
use Rattle.packet_capture.proofs.CutOffs.{cut_off_len, cut_off_short}
use Rattle.packet_capture.proofs.LongBlocks.{begins_with_long, has_block_front-append, refuses_next-append}
use Rattle.ipcap.specs.Listing.{CutsOff, EndsAt, EndsOtherwise, HasLongFront, Lists, Refuses, ToldOf, ToldOfLong, ends, ends_otherwise, if_too_long, is_cut_off, is_cut_off_long, is_refused, is_refused_long, lists, lists_long, passed, stops, written}
use Rattle.ipcap.specs.Reading.{max_len}
use Rattle.ipcap.specs.Request.{copies, has_enough}
use Rattle.ipcap.specs.Private.Progress.{Because, Breaks, Ends, GoesOn, IsTold, Lacks, Skips, Tells, TellsFront, TellsFrontOf, Turns, WantsMore, keeps, last_four}
use Rattle.ipcap.specs.Streams.{CannotRead, Prints, PrintsFront, Reads, Takes, kept_if, pending, unread}
use Rattle.ipcap.specs.Totals.{HasRoom, Told, counted, counted_block, no_packet, packet}
use Rattle.ipcap.specs.declared.failure.Failure.{Failure}
use Rattle.ipcap.specs.declared.failure.Failure.TheVariants as failure
use Rattle.ipcap.specs.declared.input.Input.{Input}
use Rattle.ipcap.specs.declared.listing.Turn.{Turn}
use Rattle.ipcap.specs.declared.listing.Turn.TheVariants as turn
use Rattle.ipcap.specs.declared.output.Output.{Output}
use Rattle.ipcap.specs.declared.place.End.{End}
use Rattle.ipcap.specs.declared.place.End.TheVariants.{CutOff, Refused}
use Rattle.ipcap.specs.declared.place.Place.{Place}
use Rattle.ipcap.specs.declared.request.Request.{Request}
use Rattle.ipcap.specs.declared.totals.Totals.{Totals}

pub on_err : {T E P : Type 0} (r : Result T E) → P → OnErr r P
on_err (Ok x) p = tt
on_err (Err e) p = p

pub on_any_ok : {T E P : Type 0} (r : Result T E) → P → OnOk r P
on_any_ok (Ok x) p = p
on_any_ok (Err e) p = tt

pub on_ok : {T E P Q : Type 0} (r : Result T E) → (P → Q) → OnOk r P → OnOk r Q
on_ok (Ok x) f p = f p
on_ok (Err e) f p = tt

-- there is room for what is read
pub unread_room : {R : Type 0} (a : Input R) → length (unread a) ≤ 327680
unread_room a = omega (arith, a.in_bounds, length-take a.len a.bytes)

module _ {R : Type 0} (remaining : R → Option (List ℕ)) where
  pub reads_nothing : (a : Input R) → Reads remaining a a []
  reads_nothing a = record { gave = Consumes-nil (remaining a.source); count = omega arith }

  pub reads_both : (a b c : Input R) (s t : List ℕ) → Reads remaining a b s → Reads remaining b c t → Reads remaining a c (s ++ t)
  reads_both a b c s t p q = record {
    gave = Consumes-trans (remaining a.source) (remaining b.source) (remaining c.source) s t p.gave q.gave;
    count = omega (arith, p.count, q.count, length-append s t);
  }

  pub takes_nothing : (a : Input R) → Takes remaining a a []
  takes_nothing a = record { got = []; reads = reads_nothing a; takes = append-nil (unread a) }

  pub takes_both : (a b c : Input R) (s t : List ℕ) → Takes remaining a b s → Takes remaining b c t → Takes remaining a c (s ++ t)
  takes_both a b c s t p q = record {
    got = p.got ++ q.got;
    reads = reads_both a b c p.got q.got p.reads q.reads;
    takes = grind (arith, append_assoc, p.takes, q.takes);
  }

  -- more is read after something is taken
  pub takes_then : (a b c : Input R) (s : List ℕ) → Takes remaining a b s → Takes remaining b c [] → Takes remaining a c s
  takes_then a b c s p q = rw (append-nil s) at (takes_both a b c s [] p q)

-- a cause that is no read is one whatever was read
pub any_cause : (P Q full wants other : Type 0) (e : Failure) (rest left : List ℕ) → Because ⊥ Q full e wants rest left → Because P Q full e other rest left
any_cause P Q full wants other failure.Read rest left b = absurd b.3
any_cause P Q full wants other failure.Write rest left b = b
any_cause P Q full wants other failure.Count rest left b = b

-- the same of any rest, if all is printed
pub any_rest : (P Q full wants other : Type 0) (e : Failure) (rest : List ℕ) → Because ⊥ Q full e wants [] [] → Because P Q full e other rest []
any_rest P Q full wants other failure.Read rest b = absurd b.3
any_rest P Q full wants other failure.Write rest b = b
any_rest P Q full wants other failure.Count rest b = b

pub kept_both : (is : Bool) (s t : List ℕ) → kept_if is (s ++ t) ≡ kept_if is s ++ kept_if is t
kept_both true s t = refl
kept_both false s t = refl

pub kept_nothing : (is : Bool) → kept_if is [] ≡ []
kept_nothing true = refl
kept_nothing false = refl

-- what is written of a packet in a block that is too long: its line, or else its bytes
pub written_long : (request : Request) (before : Totals) (head : PacketHead) (bytes : List ℕ)
    → written request before (packet false head (if_too_long request)) bytes ≡ written request before (packet false head (if_too_long request)) [] ++ kept_if (copies request.mode && is_none request.filter) bytes
written_long request before head bytes = grind (arith, append-nil)

-- the length of a block is counted after it
counted_then : (len : ℕ) (told : Told) (t : Totals) → counted len true no_packet (counted 0 true told t) ≡ counted len true told t
counted_then len told t =
    let bytes : min (min (t.bytes + 0) (2 ^ 64 - 1) + len) (2 ^ 64 - 1) ≡ min (t.bytes + len) (2 ^ 64 - 1) = grind arith in
    ap (λ b. record (counted_block true told t) { bytes = b }) bytes

-- why no more is told of a record that is too long, as why no more is told
past_cause : (e : Failure) (P Q : Type 0) (is : Bool) (required : ℕ) (first piece rest : List ℕ) (wants full : Type 0) → (length (first ++ piece) < required → wants) → Because P Q ⊥ e (length (first ++ piece) < required) rest piece
    → Because P Q full e wants rest (kept_if is piece)
past_cause failure.Read P Q is required first piece rest wants full f b = (f b.0, b.1, ap (kept_if is) b.2 ∙ kept_nothing is, b.3)
past_cause failure.Write P Q is required first piece rest wants full f b = b
past_cause failure.Count P Q is required first piece rest wants full f b = absurd b.0

-- ---- blocks at a front

-- of two fronts of the same bytes the longer one begins with the shorter
longer_front : (u got t rest : List ℕ) → u ++ got ≡ t ++ rest → length u ≤ length t → t ≡ u ++ drop (length u) t
longer_front u got t rest same within =
    let front : take (length u) t ≡ u = sym (take-append-le (length u) t rest within) ∙ (ap (take (length u)) (sym same) ∙ take-append_seam u got) in
    sym (take-append-drop (length u) t) ∙ ap (λ s. s ++ drop (length u) t) front

most_front : (capture : Capture) → front_len capture ≤ max_len capture
most_front (Pcap header) = omega arith
most_front (Pcapng section) = omega arith

-- what is needed to know a length is less than what is read
pub least_long : (capture : Capture) → 16 < max_len capture
least_long (Pcap header) = omega arith
least_long (Pcapng section) = omega arith

pub most_room : (capture : Capture) → max_len capture ≤ 327680
most_room (Pcap header) = omega arith
most_room (Pcapng section) = omega arith

long_front-append : (capture : Capture) (s more : List ℕ) (front : BlockFront) → HasLongFront capture s front → HasLongFront capture (s ++ more) front
long_front-append capture s more front has = record {
  enough = omega (arith, has.enough, length-append s more);
  has = has_block_front-append capture s more front has.enough has.has;
  long = has.long;
}

-- the front of a block that is cut off there
pub long_front : (capture : Capture) (s : List ℕ) (e : cut.CutOff) (front : BlockFront) → front_len capture ≤ length s → RefusesBlock capture s (error.CutOff e) → max_len capture < e.required_len
    → HasBlockFront capture s front → HasLongFront capture s front × (length s < front.len)
long_front capture s e front enough refused long has =
    let len = cut_off_len capture s e front refused (omega (arith, least_long capture, long)) has in
    (record { enough = enough; has = has; long = omega (arith, len, long) }, omega (arith, len, cut_off_short capture s e refused))

-- a block that is refused, whatever follows
pub refused_before : (capture : Capture) (s more : List ℕ) (e : BlockError) → length s ≤ max_len capture → ((of : cut.CutOff) → e ≢ error.CutOff of) → RefusesBlock capture s e → Refuses capture (s ++ more) e
refused_before capture s more e within other refused =
    let front : take (max_len capture) (s ++ more) ≡ s ++ take (max_len capture - length s) more = ap (λ n. take n (s ++ more)) (omega (arith, within)) ∙ take-append-add s more (max_len capture - length s) in
    record { refuses = rw front (refuses_next-append capture s (take (max_len capture - length s) more) e other refused); other = other }

-- a block of the classic format is not refused for another reason
pub only_cut_off : (header : FileHeader) (s : List ℕ) (e : BlockError) → ((of : cut.CutOff) → e ≢ error.CutOff of) → ¬ RefusesBlock (Pcap header) s e
only_cut_off header s (error.CutOff of) other refused = other of refl
only_cut_off header s _ other refused = refused

-- so if one is refused, all that was read is no longer than what is read of a block
pub refused_within : (capture : Capture) (s : List ℕ) (e : BlockError) → length s ≤ 327680 → ((of : cut.CutOff) → e ≢ error.CutOff of) → RefusesBlock capture s e → length s ≤ max_len capture
refused_within (Pcap header) s e room other refused = absurd (only_cut_off header s e other refused)
refused_within (Pcapng section) s e room other refused = room

-- A block that is too long can be whole in what was read only if it is a record.
pub long_record : (capture : Capture) (s more : List ℕ) (after : Capture) (of : Said) → BeginsWith capture (s ++ more) after of more → max_len capture < length s → length (s ++ more) ≤ 327680
    → (front : BlockFront) × HasLongFront capture s front × (length s ≡ front.len) × (after ≡ capture) × ((head : PacketHead) × (frame : List ℕ) × (of ≡ said.packet head frame) × (front.content ≡ content.Packet head))
long_record (Pcap header) s more (Pcap same) of b long room =
    let begins = b.1.begins in
    let len : record_len header (s ++ more) ≡ length s = omega (arith, begins.whole, ap length begins.after, length-drop (record_len header (s ++ more)) (s ++ more), length-append s more) in
    let enough : 16 ≤ length s = omega (arith, len) in
    let head = record_head-append header s more enough in
    let own : length s ≡ record_len header s = sym len ∙ ap (λ h. 16 + h.captured_len) head in (
      front_of_record header s,
      record { enough = enough; has = refl; long = omega (arith, own, long) },
      own,
      ap Pcap b.0,
      (head_of_record header s, b.1.recorded.bytes, b.1.says ∙ cc head, refl),
    )
long_record (Pcapng before) s more (Pcapng after) of b long room = absurd (omega (arith, long, room, length-append s more))
long_record (Pcap header) s more (Pcapng after) of b long room = absurd b
long_record (Pcapng before) s more (Pcap header) of b long room = absurd b

-- what follows a block is all but its bytes
pub rest_of : (capture : Capture) (s : List ℕ) (after : Capture) (of : Said) (rest : List ℕ) → BeginsWith capture s after of rest → rest ≡ drop (length s - length rest) s
rest_of (Pcap header) s (Pcap same) of rest b =
    let begins = b.1.begins in
    begins.after ∙ ap (λ n. drop n s) (omega (arith, begins.whole, ap length begins.after, length-drop (record_len header s) s))
rest_of (Pcapng before) s (Pcapng after) of rest b =
    let begins = b.begins in
    begins.is_rest ∙ ap (λ n. drop n s) (omega (arith, begins.whole.enough, ap length begins.is_rest, length-drop begins.head.total_len s))
rest_of (Pcap header) s (Pcapng after) of rest b = absurd b
rest_of (Pcapng before) s (Pcap header) of rest b = absurd b

pub front_room : (capture : Capture) → front_len capture < 327680
front_room (Pcap header) = omega arith
front_room (Pcapng section) = omega arith

-- the head that two packets have is the same
abbrev head_or : PacketHead → Said → PacketHead
head_or head (said.packet same frame) = same
head_or head said.other = head

pub same_head : (a b : PacketHead) (f g : List ℕ) → said.packet a f ≡ said.packet b g → a ≡ b
same_head a b f g same = ap (head_or a) same

-- the format of a capture stays, and with it what is read
pub same_most : (capture : Capture) (s : List ℕ) (after : Capture) (of : Said) (rest : List ℕ) → BeginsWith capture s after of rest → max_len after ≡ max_len capture
same_most (Pcap header) s (Pcap same) of rest b = refl
same_most (Pcapng before) s (Pcapng after) of rest b = refl
same_most (Pcap header) s (Pcapng after) of rest b = absurd b
same_most (Pcapng before) s (Pcap header) of rest b = absurd b

-- what holds at one value holds at another that is the same
pub subst_at : {A : Type 0} {x y : A} (P : A → Type 0) → x ≡ y → P y → P x
subst_at P e p = subst P (sym e) p

can_be_skipped : (request : Request) (of : Content) (told : Told) → ToldOfLong request of told → CanBeSkipped of
can_be_skipped request (content.Packet head) told is = tt
can_be_skipped request (content.Refused e) told is = absurd is
can_be_skipped request content.Description told is = absurd is
can_be_skipped request content.Other told is = tt

-- the last four bytes of some that are as many
last_is : (taken : List ℕ) → 4 ≤ length taken → last_four taken ≡ drop (length taken - 4) taken
last_is taken enough = ap (λ n. drop n ((0 ∷ 0 ∷ 0 ∷ 0 ∷ []) ++ taken)) (omega (arith, enough)) ∙ drop-append-add (0 ∷ 0 ∷ 0 ∷ 0 ∷ []) taken (length taken - 4)

-- the last four bytes are the length of the block, or they are not
ends_or_not : (head : Option BlockHead) (last : List ℕ) → EndsRight head last ⊎ ((e : BlockError) × HasOtherEnd head last e)
ends_or_not None last = inl tt
ends_or_not (Some head) last = elim (eqb_tells (number_in head.order w32 last) head.total_len) [
  | inl same ↦ inl same.1
  | inr other ↦ inr (error.Lengths head.total_len (number_in head.order w32 last), (other.1, refl))
]

module _ {W : Type 0} (contents : W → Option (List ℕ)) where
  pub prints_nothing : (a : Output W) → Prints contents a a []
  prints_nothing a = record { passed = []; gets = Appends-nil (contents a.sink); prints = append-nil (pending a) }

  pub prints_both : (a b c : Output W) (s t : List ℕ) → Prints contents a b s → Prints contents b c t → Prints contents a c (s ++ t)
  prints_both a b c s t p q = record {
    passed = p.passed ++ q.passed;
    gets = Appends-trans (contents a.sink) (contents b.sink) (contents c.sink) p.passed q.passed p.gets q.gets;
    prints = grind (arith, append_assoc, p.prints, q.prints);
  }

  -- nothing more is printed
  pub prints_then : (a b c : Output W) (text : List ℕ) → Prints contents a b text → Prints contents b c [] → Prints contents a c text
  prints_then a b c text p q = rw (append-nil text) at (prints_both a b c text [] p q)

  -- more is printed, or a front of it
  pub front_then : (a b c : Output W) (s t : List ℕ) → Prints contents a b s → PrintsFront contents b c t → PrintsFront contents a c (s ++ t)
  front_then a b c s t p q = record {
    front = s ++ q.front;
    rest = q.rest;
    whole = ap (λ l. s ++ l) q.whole ∙ sym (append_assoc s q.front q.rest);
    prints = prints_both a b c s q.front p q.prints;
  }

  module _ (request : Request) where
    pub tells_kept : (t : Place) (o n : Output W) → Prints contents o n [] → Tells contents request t t [] o n
    tells_kept t o n kept = record { text = []; lists = λ last end more tail l. l; prints = kept }

    pub tells_nothing : (t : Place) (o : Output W) → Tells contents request t t [] o o
    tells_nothing t o = tells_kept t o o (prints_nothing o)

    pub tells_both : (t u v : Place) (s r : List ℕ) (o m n : Output W) → Tells contents request t u s o m → Tells contents request u v r m n → Tells contents request t v (s ++ r) o n
    tells_both t u v s r o m n a b = record {
      text = a.text ++ b.text;
      lists = λ last end more tail l. rw (append_assoc s r more, append_assoc a.text b.text tail) (a.lists last end (r ++ more) (b.text ++ tail) (b.lists last end more tail l));
      prints = prints_both o m n a.text b.text a.prints b.prints;
    }

    told_then : (t u : Place) (last : Totals) (end : Option End) (s r : List ℕ) (o m n : Output W) → Tells contents request t u s o m → IsTold contents request u last end m n r → IsTold contents request t last end o n (s ++ r)
    told_then t u last end s r o m n a b = record {
      text = a.text ++ b.text;
      lists = a.lists last end r b.text b.lists;
      prints = prints_both o m n a.text b.text a.prints b.prints;
    }

    lists_at : (t u : Place) (last : Totals) (s rest text bytes : List ℕ) (n : ℕ) (of : Said) (told : Told) (end : Option End)
        → has_enough request t.totals.listed ≡ false → n ≡ length s - length rest → bytes ≡ take n s
        → BeginsWith t.capture s u.capture of rest → n ≤ max_len t.capture → ToldOf request of t.totals t.memory u.totals u.memory told
        → Lists request (passed n false told u) rest text last end → Lists request t s (written request u.totals told bytes ++ text) last end
    lists_at t u last s rest text bytes n of told end going e b begins within is l = rw (b, e) (lists u of told going begins (rw e at within) is (rw e at l))

    lists_long_at : (t : Place) (last : Totals) (s rest text bytes : List ℕ) (front : BlockFront) (of : Said) (told : Told) (end : Option End)
        → has_enough request t.totals.listed ≡ false → bytes ≡ take front.len s
        → HasLongFront t.capture s front → ToldOfLong request front.content told → BeginsWith t.capture s t.capture of rest
        → Lists request (passed front.len true told t) rest text last end → Lists request t s (written request t.totals told bytes ++ text) last end
    lists_long_at t last s rest text bytes front of told end going b has is begins l = rw b (lists_long of told going has is begins l)

    -- the bytes of one block
    pub told_one : (t u : Place) (s other : List ℕ) (of : Said) (told : Told) (o m : Output W)
        → has_enough request t.totals.listed ≡ false → BeginsWith t.capture (s ++ other) u.capture of other → length s ≤ max_len t.capture → ToldOf request of t.totals t.memory u.totals u.memory told
        → Prints contents o m (written request u.totals told s) → Tells contents request t (passed (length s) false told u) s o m
    told_one t u s other of told o m going begins within is wrote = record {
      text = written request u.totals told s;
      lists = λ last end more tail l. lists_at t u last (s ++ more) more tail s (length s) of told end going (omega (arith, length-append s more)) (sym (take-append_seam s more))
          (begins_with-front t.capture s other more u.capture of other begins (sym (length-append s other))) within is l;
      prints = wrote;
    }

    -- the same of one that is too long
    lists_long_one : (t : Place) (s : List ℕ) (front : BlockFront) (told : Told) (last : Totals) (end : Option End) (more tail : List ℕ)
        → has_enough request t.totals.listed ≡ false → HasLongFront t.capture s front → length s ≡ front.len → ((rest : List ℕ) → (of : Said) × BeginsWith t.capture (s ++ rest) t.capture of rest) → ToldOfLong request front.content told
        → Lists request (passed front.len true told t) more tail last end → Lists request t (s ++ more) (written request t.totals told s ++ tail) last end
    lists_long_one t s front told last end more tail going has len begins is l =
        lists_long_at t last (s ++ more) more tail s front (begins more).0 told end going (sym (ap (λ n. take n (s ++ more)) (sym len) ∙ take-append_seam s more))
        (long_front-append t.capture s more front has) is (begins more).1 l

    pub told_long : (t : Place) (s : List ℕ) (front : BlockFront) (told : Told) (o m : Output W)
        → has_enough request t.totals.listed ≡ false → HasLongFront t.capture s front → length s ≡ front.len → ((rest : List ℕ) → (of : Said) × BeginsWith t.capture (s ++ rest) t.capture of rest) → ToldOfLong request front.content told
        → Prints contents o m (written request t.totals told s) → Tells contents request t (passed front.len true told t) s o m
    told_long t s front told o m going has len begins is wrote = record {
      text = written request t.totals told s;
      lists = λ last end more tail l. lists_long_one t s front told last end more tail going has len begins is l;
      prints = wrote;
    }

    -- a block that is too long, and is cut off or ends with another length
    otherwise_at : (t : Place) (s bytes : List ℕ) (front : BlockFront) (told : Told) (e : BlockError)
        → has_enough request t.totals.listed ≡ false → bytes ≡ take front.len s → HasLongFront t.capture s front → ToldOfLong request front.content told → EndsOtherwise s front e
        → Lists request t s (written request t.totals told bytes) (counted 0 true told t.totals) (Some (Refused e))
    otherwise_at t s bytes front told e going b has is otherwise = rw b (ends_otherwise told going has is otherwise)

    lists_otherwise : (t : Place) (s more : List ℕ) (front : BlockFront) (told : Told) (e : BlockError)
        → has_enough request t.totals.listed ≡ false → HasLongFront t.capture s front → ToldOfLong request front.content told → length s ≡ front.len → HasOtherEnd front.head (drop (length s - 4) s) e
        → Lists request t (s ++ more) (written request t.totals told s) (counted 0 true told t.totals) (Some (Refused e))
    lists_otherwise t s more front told e going has is len other =
        let all : s ≡ take front.len (s ++ more) = sym (ap (λ n. take n (s ++ more)) (sym len) ∙ take-append_seam s more) in
        let end : drop (length s - 4) s ≡ drop (front.len - 4) (take front.len (s ++ more)) = ap (λ n. drop (n - 4) s) len ∙ ap (drop (front.len - 4)) all in
        otherwise_at t (s ++ more) s front told e going all (long_front-append t.capture s more front has) is
        (record { enough = omega (arith, len, length-append s more); other = subst (λ last. HasOtherEnd front.head last e) end other })

    -- all of it that is there
    pub lists_upto : (t : Place) (s : List ℕ) (front : BlockFront) (told : Told)
        → has_enough request t.totals.listed ≡ false → HasLongFront t.capture s front → ToldOfLong request front.content told → length s ≤ front.len
        → (last : Totals) × (end : Option End) × Lists request t s (written request t.totals told s) last end × (length s < front.len → WantsMore request last end)
    lists_upto t s front told going has is within = elim (eq-or-lt_of_le within) [
      | inl len ↦ elim (ends_or_not front.head (drop (length s - 4) s)) [
        | inl right ↦ (
          counted front.len true told t.totals,
          None,
          rw (append-nil s, append-nil (written request t.totals told s)) at (lists_long_one t s front told _ None [] [] going has len (λ rest. begins_with_long t.capture s rest front has.enough has.has len right (can_be_skipped request front.content told is)) is ends),
          λ less. absurd (omega (arith, len, less)),
        )
        | inr wrong ↦ (counted 0 true told t.totals, Some (Refused wrong.0), rw (append-nil s) at (lists_otherwise t s [] front told wrong.0 going has is len wrong.1), λ less. absurd (omega (arith, len, less)))
      ]
      | inr less ↦ (counted 0 true told t.totals, Some (CutOff (record { required_len = front.len; len = length s })), is_cut_off_long told going has is less, λ wants. tt)
    ]

    -- nothing is told
    pub told_end : (t : Place) (s : List ℕ) (o m : Output W) → s ≡ [] → Prints contents o m [] → IsTold contents request t t.totals None o m s
    told_end t s o m none kept = record { text = []; lists = rw none ends; prints = kept }

    pub told_enough : (t : Place) (s : List ℕ) (o m : Output W) → has_enough request t.totals.listed ≡ true → Prints contents o m [] → IsTold contents request t t.totals None o m s
    told_enough t s o m enough kept = record { text = []; lists = stops enough; prints = kept }

    pub told_cut_off : (t : Place) (s : List ℕ) (e : cut.CutOff) (o m : Output W) → has_enough request t.totals.listed ≡ false → CutsOff t.capture s e → Prints contents o m [] → IsTold contents request t t.totals (Some (CutOff e)) o m s
    told_cut_off t s e o m going cut kept = record { text = []; lists = is_cut_off going cut; prints = kept }

    told_refused : (t : Place) (s : List ℕ) (e : BlockError) (o m : Output W) → has_enough request t.totals.listed ≡ false → Refuses t.capture s e → Prints contents o m [] → IsTold contents request t t.totals (Some (Refused e)) o m s
    told_refused t s e o m going refused kept = record { text = []; lists = is_refused going refused; prints = kept }

    told_refused_long : (t : Place) (s : List ℕ) (front : BlockFront) (end : End) (o m : Output W) → has_enough request t.totals.listed ≡ false → HasLongFront t.capture s front → EndsAt front.len front.content end → Prints contents o m []
        → IsTold contents request t t.totals (Some end) o m s
    told_refused_long t s front end o m going has at kept = record { text = []; lists = is_refused_long going has at; prints = kept }

    -- a front is told after other data
    pub front_after : (P Q : Type 0) (t u : Place) (e : Failure) (s r : List ℕ) (o m n : Output W)
        → Tells contents request t u s o m → TellsFront contents request P Q u e r m n → TellsFront contents request P Q t e (s ++ r) o n
    front_after P Q t u e s r o m n told f = record {
      front = s ++ f.front;
      rest = f.rest;
      whole = grind (arith, append_assoc, f.whole);
      last = f.last;
      end = f.end;
      printed = told.text ++ f.printed;
      left = f.left;
      lists = rw (append_assoc told.text f.printed f.left) (told.lists f.last f.end f.front (f.printed ++ f.left) f.lists);
      prints = prints_both o m n told.text f.printed told.prints f.prints;
      cause = f.cause;
    }

    -- nothing is told, and a call failed that is no read
    pub front_of_nothing : (P Q wants : Type 0) (t : Place) (e : Failure) (r : List ℕ) (o n : Output W) → Prints contents o n [] → Because ⊥ Q (¬ HasRoom t.totals) e wants [] [] → TellsFront contents request P Q t e r o n
    front_of_nothing P Q wants t e r o n kept cause = record {
      front = [];
      rest = r;
      whole = refl;
      last = t.totals;
      end = None;
      printed = [];
      left = [];
      lists = ends;
      prints = kept;
      cause = any_rest P Q (¬ HasRoom t.totals) wants _ e r cause;
    }

module _ {R W : Type 0} (remaining : R → Option (List ℕ)) (contents : W → Option (List ℕ)) (request : Request) where
  whole_rest : (u v s g k rest : List ℕ) → u ++ g ≡ s ++ v → (u ++ (g ++ k)) ++ rest ≡ s ++ ((v ++ k) ++ rest)
  whole_rest u v s g k rest e = grind (arith, append_assoc)

  whole : (u v s g k : List ℕ) → u ++ g ≡ s ++ v → u ++ (g ++ k) ≡ s ++ (v ++ k)
  whole u v s g k e = grind (arith, append_assoc)

  pub turns_then : (t u v : Place) (s : List ℕ) (k : Turn) (a b c : Input R) (o m n : Output W) → Takes remaining a b s → Tells contents request t u s o m
      → Turns remaining contents request u v k b c m n → Turns remaining contents request t v k a c o n
  turns_then t u v s turn.GoesOn a b c o m n takes told k = record {
    taken = s ++ k.taken;
    takes = takes_both remaining a b c s k.taken takes k.takes;
    tells = tells_both contents request t u v s k.taken o m n told k.tells;
    more = omega (arith, takes.reads.count, k.more);
  }
  turns_then t u v s (turn.Ends end) a b c o m n takes told k = record {
    got = takes.got ++ k.got;
    reads = reads_both remaining a b c takes.got k.got takes.reads k.reads;
    told = rw (whole (unread a) (unread b) s takes.got k.got takes.takes) (told_then contents request t u v.totals end s (unread b ++ k.got) o m n told k.told);
    all = elim k.all [
      | inl at_end ↦ inl at_end
      | inr any ↦ inr (λ rest. rw (whole_rest (unread a) (unread b) s takes.got k.got rest takes.takes) (told_then contents request t u v.totals end s ((unread b ++ k.got) ++ rest) o m n told (any rest)))
    ];
  }

  pub breaks_then : (P : R → Type 0) (Q : W → Type 0) (t u : Place) (s : List ℕ) (e : Failure) (a b c : Input R) (o m n : Output W) → Takes remaining a b s → Tells contents request t u s o m
      → Breaks remaining contents request P Q u e b c m n → Breaks remaining contents request P Q t e a c o n
  breaks_then P Q t u s e a b c o m n takes told k = record {
    got = takes.got ++ k.got;
    reads = reads_both remaining a b c takes.got k.got takes.reads k.reads;
    tells = rw (whole (unread a) (unread b) s takes.got k.got takes.takes) (front_after contents request (CannotRead P c) (Q n.sink) t u e s (unread b ++ k.got) o m n told k.tells);
  }

  -- what was read before is told in part, and then a write failed or a count was full
  pub front_breaks : (P : R → Type 0) (Q : W → Type 0) (t : Place) (e : Failure) (a : Input R) (o m : Output W)
      → TellsFront contents request ⊥ (Q m.sink) t e (unread a) o m → Breaks remaining contents request P Q t e a a o m
  front_breaks P Q t e a o m f = record {
    got = [];
    reads = reads_nothing remaining a;
    tells = record {
      front = f.front;
      rest = f.rest;
      whole = append-nil (unread a) ∙ f.whole;
      last = f.last;
      end = f.end;
      printed = f.printed;
      left = f.left;
      lists = f.lists;
      prints = f.prints;
      cause = any_cause (CannotRead P a) (Q m.sink) _ _ _ e f.rest f.left f.cause;
    };
  }

  -- all that was read is told, and then a read failed
  pub read_breaks : (P : R → Type 0) (Q : W → Type 0) (t : Place) (last : Totals) (end : Option End) (a b : Input R) (o m : Output W) (got : List ℕ) → Reads remaining a b got
      → IsTold contents request t last end o m (unread a ++ got) → WantsMore request last end → CannotRead P b → Breaks remaining contents request P Q t failure.Read a b o m
  read_breaks P Q t last end a b o m got reads told wants failed = record {
    got = got;
    reads = reads;
    tells = record {
      front = unread a ++ got;
      rest = [];
      whole = sym (append-nil (unread a ++ got));
      last = last;
      end = end;
      printed = told.text;
      left = [];
      lists = rw (append-nil told.text) told.lists;
      prints = told.prints;
      cause = (wants, refl, refl, failed);
    };
  }

  -- nothing more is read, and a block is refused, whatever follows
  pub refused_ends : (t : Place) (e : BlockError) (a : Input R) (o : Output W) → has_enough request t.totals.listed ≡ false → length (unread a) ≤ max_len t.capture → ((of : cut.CutOff) → e ≢ error.CutOff of) → RefusesBlock t.capture (unread a) e
      → Ends remaining contents request t t.totals (Some (Refused e)) a a o o
  refused_ends t e a o going within other refused = record {
    got = [];
    reads = reads_nothing remaining a;
    told = told_refused contents request t (unread a ++ []) e o o going (refused_before t.capture (unread a) [] e within other refused) (prints_nothing contents o);
    all = inr (λ rest. told_refused contents request t ((unread a ++ []) ++ rest) e o o going (rw (append_assoc (unread a) [] rest) (refused_before t.capture (unread a) ([] ++ rest) e within other refused)) (prints_nothing contents o));
  }

  pub refused_long_ends : (t : Place) (front : BlockFront) (end : End) (a : Input R) (o : Output W) → has_enough request t.totals.listed ≡ false → HasLongFront t.capture (unread a) front → EndsAt front.len front.content end
      → Ends remaining contents request t t.totals (Some end) a a o o
  refused_long_ends t front end a o going has at = record {
    got = [];
    reads = reads_nothing remaining a;
    told = told_refused_long contents request t (unread a ++ []) front end o o going (long_front-append t.capture (unread a) [] front has) at (prints_nothing contents o);
    all = inr (λ rest. told_refused_long contents request t ((unread a ++ []) ++ rest) front end o o going (long_front-append t.capture (unread a ++ []) rest front (long_front-append t.capture (unread a) [] front has)) at (prints_nothing contents o));
  }

  -- a block that is too long is told, as far as it is there
  module _ (t : Place) (u : Totals) (front : BlockFront) (a c : Input R) (o m n : Output W) (going : has_enough request t.totals.listed ≡ false) (has : HasLongFront t.capture (unread a) front) (short : length (unread a) < front.len)
      (line : TellsFrontOf contents request front t.totals u o m) where
    front_of : (got s rest : List ℕ) → unread a ++ got ≡ s ++ rest → (length s < front.len → rest ≡ []) → length s ≤ front.len → HasLongFront t.capture s front
    front_of got s rest same all within =
        let longer : length (unread a) ≤ length s = elim (eq-or-lt_of_le within) [
          | inl whole ↦ omega (arith, whole, short)
          | inr less ↦ omega (arith, ap length same, ap length (all less), length-append (unread a) got, length-append s rest)
        ] in
        rw (longer_front (unread a) got s rest same longer) (long_front-append t.capture (unread a) (drop (length (unread a)) s) front has)

    module _ (len : ℕ) (last : List ℕ) (k : Skips remaining contents (keeps request front.content) front.len a c m n len last) where
      is_there : HasLongFront t.capture k.taken front
      is_there = front_of k.takes.got k.taken (unread c) k.takes.takes (λ less. k.all (omega (arith, k.many, less))) (omega (arith, k.many, k.within))

      wrote : Prints contents o n (written request t.totals line.told k.taken)
      wrote = rw (line.all k.taken) (prints_both contents o m n line.line (kept_if (keeps request front.content) k.taken) line.prints k.prints)

      last_of : len ≡ front.len → last ≡ drop (length k.taken - 4) k.taken
      last_of all = k.is_last ∙ last_is k.taken (omega (arith, k.many, all, has.long, least_long t.capture))

      pub past_skipped : (v : Totals) → v ≡ counted front.len true no_packet u → len ≡ front.len → EndsRight front.head last → GoesOn remaining contents request t (record t { totals = v }) a c o n
      past_skipped v more all right =
          let whole : length k.taken ≡ front.len = k.many ∙ all in
          let end = subst (λ x. EndsRight front.head x) (last_of all) right in
          record {
            taken = k.taken;
            takes = k.takes;
            tells = rw (more ∙ (ap (counted front.len true no_packet) line.counts ∙ counted_then front.len line.told t.totals)) (told_long contents request t k.taken front line.told o n going is_there whole (λ rest. begins_with_long t.capture k.taken rest front is_there.enough is_there.has whole end (can_be_skipped request front.content line.told line.is)) line.is wrote);
            more = omega (arith, k.takes.reads.count, short, whole, ap length k.takes.takes, length-append (unread a) k.takes.got, length-append k.taken (unread c));
          }

      pub told_otherwise : (e : BlockError) → len ≡ front.len → HasOtherEnd front.head last e → Ends remaining contents request t u (Some (Refused e)) a c o n
      told_otherwise e all other =
          let whole : length k.taken ≡ front.len = k.many ∙ all in
          let end = subst (λ x. HasOtherEnd front.head x e) (last_of all) other in
          let told : (rest : List ℕ) → IsTold contents request t u (Some (Refused e)) o n (k.taken ++ rest) = λ rest. rw line.counts (record {
            text = written request t.totals line.told k.taken;
            lists = lists_otherwise contents request t k.taken rest front line.told e going is_there line.is whole end;
            prints = wrote;
          }) in
          record {
            got = k.takes.got;
            reads = k.takes.reads;
            told = rw k.takes.takes (told (unread c));
            all = inr (λ rest. rw (k.takes.takes, append_assoc k.taken (unread c) rest) (told (unread c ++ rest)));
          }

      -- all that was read
      all_read : len < front.len → unread a ++ k.takes.got ≡ k.taken
      all_read few = let over = k.all few in grind (arith, append-nil, k.takes.takes)

      pub told_cut : len < front.len → IsTold contents request t u (Some (CutOff (record { required_len = front.len; len = len }))) o n (unread a ++ k.takes.got)
      told_cut few = rw (all_read few, line.counts, sym k.many) (record {
        text = written request t.totals line.told k.taken;
        lists = is_cut_off_long line.told going is_there line.is (omega (arith, k.many, few));
        prints = wrote;
      })

    pub past_breaks : (P : R → Type 0) (Q : W → Type 0) (e : Failure) → Lacks remaining contents (CannotRead P c) (Q n.sink) (keeps request front.content) front.len e a c m n → Breaks remaining contents request P Q t e a c o n
    past_breaks P Q e k =
        let s = k.first ++ k.piece in
        let is = keeps request front.content in
        let found = lists_upto contents request t s front line.told going (front_of k.got s k.rest k.whole k.all k.within) line.is k.within in
        let text : written request t.totals line.told s ≡ (line.line ++ kept_if is k.first) ++ kept_if is k.piece =
        line.all s ∙ ap (λ x. line.line ++ x) (kept_both is k.first k.piece) ∙ sym (append_assoc line.line (kept_if is k.first) (kept_if is k.piece)) in
        record {
          got = k.got;
          reads = k.reads;
          tells = record {
            front = s;
            rest = k.rest;
            whole = k.whole;
            last = found.0;
            end = found.1;
            printed = line.line ++ kept_if is k.first;
            left = kept_if is k.piece;
            lists = rw text at found.2;
            prints = prints_both contents o m n line.line (kept_if is k.first) line.prints k.prints;
            cause = past_cause e (CannotRead P c) (Q n.sink) is front.len k.first k.piece k.rest _ _ found.3 k.cause;
          };
        }

  -- the input is at its end
  pub ended : (t : Place) (end : Option End) (a b : Input R) (o n : Output W) → IsTold contents request t t.totals end o n (unread a) → Takes remaining a b [] → unread b ≡ unread a → IsAtEnd (remaining b.source)
      → Ends remaining contents request t t.totals end a b o n
  ended t end a b o n told p same over = record { got = p.got; reads = p.reads; told = rw (p.takes, same) told; all = inl over }
