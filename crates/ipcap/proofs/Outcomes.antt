-- What a run writes, and what one that fails has written.
use Rattle.std.proofs.Common.{ℕ, ◌≡◌, ◌⊎◌, inl, inr, List, [], ◌++◌, take, drop, Option, Some, None, Result, Ok, Err, IfErr, IfOk, refl, subst, sym, ap, ◌∙◌, append_assoc, append-nil, arith, IfSome, take-append-drop}
use Rattle.std.proofs.lemmas.List.{take-append-le}
use Rattle.std.specs.Option.{is_some}
use Rattle.std.specs.Io.KnownBytes.{Consumes, IsAtEnd, prepend_known}
use Rattle.std.proofs.KnownBytes.{Appends-nil, Consumes-whole}
use Rattle.packet.specs.Link.{link_type_of}
use Rattle.packet_capture.specs.Any.{ReadsFront}
use Rattle.packet_capture.specs.declared.any.Capture.{Capture}
use Rattle.packet_capture.specs.declared.any.Capture.TheVariants.{Pcap}
use Rattle.packet_capture.specs.declared.capture.CaptureError.{CaptureError}
use Rattle.packet_capture.specs.declared.capture.CaptureError.TheVariants as capture
use Rattle.packet_capture.specs.declared.capture.FileHeader.{FileHeader}
use Rattle.ipcap.specs.Lines.{capture_error_line, link_type_line}
use Rattle.ipcap.specs.Listing.{Lists, ends}
use Rattle.ipcap.specs.Output.{Fails, HasOtherFrames, IsCapture, IsCause, IsListed, IsListedTo, IsNoCapture, IsOpen, IsOutcome, Writes, first_place, front_of, header_len, listed, number_of, refused, status_at}
use Rattle.ipcap.specs.Private.Ended.{FailsListing, LacksFront, WritesListing}
use Rattle.ipcap.specs.Private.Progress.{Because, Breaks, Ends, IsTold, WantsMore}
use Rattle.ipcap.specs.Reassembled.{Memory}
use Rattle.ipcap.specs.Request.{copies}
use Rattle.ipcap.specs.Streams.{CannotRead, Gets, GetsFront, NoReadFails, Prints, PrintsFront, Reports, Takes, kept_if, pending, unlisted, unread}
use Rattle.ipcap.specs.Totals.{HasRoom, first_totals}
use Rattle.ipcap.specs.declared.failure.Failure.{Failure}
use Rattle.ipcap.specs.declared.failure.Failure.TheVariants as failure
use Rattle.ipcap.specs.declared.input.Input.{Input}
use Rattle.ipcap.specs.declared.output.Output.{Output}
use Rattle.ipcap.specs.declared.place.End.{End}
use Rattle.ipcap.specs.declared.place.End.TheVariants.{CutOff}
use Rattle.ipcap.specs.declared.request.Request.{Request}
use Rattle.ipcap.specs.declared.status.Status.{Status}
use Rattle.ipcap.specs.declared.totals.Totals.{Totals}
use Rattle.ipcap.proofs.Runs.{prints_both, prints_then, reads_both, takes_both}
use Rattle.ipcap.proofs.Fronts.{header_there, reads_front-append, reads_no_front-append}

-- ---- what a sink gets

module _ {W : Type 0} (contents : W → Option (List ℕ)) where
  -- all that was printed is passed
  pub printed_all : (a b : Output W) (text : List ℕ) → pending a ≡ [] → Prints contents a b text → pending b ≡ [] → Gets contents a b text
  printed_all a b text none p all = let e : text ≡ p.passed = grind (arith, append-nil, p.prints) in rw e p.gets

  -- a front of it is passed
  pub printed_front : (a b : Output W) (text rest : List ℕ) → pending a ≡ [] → Prints contents a b text → GetsFront contents a b (text ++ rest)
  printed_front a b text rest none p = record {
    front = p.passed;
    rest = pending b ++ rest;
    whole = grind (arith, append_assoc, p.prints);
    gets = p.gets;
  }

-- ---- what was read

-- what holds of all bytes, from what holds of those that are left of them
before : (a b : Option (List ℕ)) (bytes : List ℕ) (P Q : List ℕ → Type 0) → Consumes a b bytes → ((rest : List ℕ) → Q rest → P (bytes ++ rest)) → IfSome b Q → IfSome a P
before a b bytes P Q taken f q = grind arith

all : (a b : Option (List ℕ)) (u got bytes : List ℕ) → Consumes a b got → u ++ got ≡ bytes → Consumes (prepend_known u a) b bytes
all a b u got bytes c e = grind (arith, append_assoc)

from_records : (a b : Option (List ℕ)) (u v got s : List ℕ) (P Q : List ℕ → Type 0) → Consumes a b got → u ++ got ≡ s ++ v → ((rest : List ℕ) → Q rest → P (s ++ rest)) → IfSome (prepend_known v b) Q
    → IfSome (prepend_known u a) P
from_records a b u v got s P Q p e f q = before (prepend_known u a) (prepend_known v b) s P Q (grind (arith, append_assoc)) f q

all_read : (a b : Option (List ℕ)) (u got : List ℕ) → Consumes a b got → Consumes (prepend_known u a) b (u ++ got)
all_read a b u got c = all a b u got (u ++ got) c refl

-- what holds of all bytes, from what holds of those that were read and any that follow
and_any : (a b : Option (List ℕ)) (bytes : List ℕ) (P : List ℕ → Type 0) → Consumes a b bytes → ((rest : List ℕ) → P (bytes ++ rest)) → IfSome a P
and_any None b bytes P c f = tt
and_any (Some x) None bytes P c f = absurd c
and_any (Some x) (Some y) bytes P c f = rw c (f y)

-- what holds of all bytes, from what holds of those that are left after some
from_rest : (a b : Option (List ℕ)) (u v got s : List ℕ) (P Q : List ℕ → Type 0) → Consumes a b got → u ++ got ≡ s ++ v → ((more : List ℕ) → Q (v ++ more) → P (s ++ (v ++ more))) → IfSome (prepend_known v b) Q → IfSome (prepend_known u a) P
from_rest None b u v got s P Q c e f q = tt
from_rest (Some x) None u v got s P Q c e f q = absurd c
from_rest (Some x) (Some y) u v got s P Q c e f q =
    let same : u ++ x ≡ s ++ (v ++ y) = grind (arith, append_assoc) in
    subst P (sym same) (f y q)

-- ---- outcomes

is_no_capture : (request : Request) (memory : Memory) (u : List ℕ) (e : CaptureError) → ReadsFront u (Err e) → IsOutcome request memory u (refused (capture_error_line e))
is_no_capture request memory u e none = let refusal : IsNoCapture u (refused (capture_error_line e)) = record { error = e; front = none; outcome_of = refl } in inr (inr refusal)

pub no_capture : (request : Request) (memory : Memory) (r : Option (List ℕ)) (u : List ℕ) (e : CaptureError) → (¬ LacksFront u) ⊎ IsAtEnd r → ReadsFront u (Err e)
    → IfSome (prepend_known u r) (λ input. IsOutcome request memory input (refused (capture_error_line e)))
no_capture request memory None u e enough none = tt
no_capture request memory (Some more) u e enough none = is_no_capture request memory (u ++ more) e (reads_no_front-append u more e enough none)

has_other_frames : (request : Request) (memory : Memory) (u rest : List ℕ) (header : FileHeader) → ReadsFront u (Ok (Pcap header, rest)) → link_type_of (number_of header) ≡ None
    → IsOutcome request memory u (refused (link_type_line (number_of header)))
has_other_frames request memory u rest header front other =
    let refusal : HasOtherFrames u (refused (link_type_line (number_of header))) = record { header = header; blocks = rest; front = front; other = other; outcome_of = refl } in
    inr (inl refusal)

pub other_frames : (request : Request) (memory : Memory) (r : Option (List ℕ)) (u rest : List ℕ) (header : FileHeader) → ReadsFront u (Ok (Pcap header, rest)) → link_type_of (number_of header) ≡ None
    → IfSome (prepend_known u r) (λ input. IsOutcome request memory input (refused (link_type_line (number_of header))))
other_frames request memory None u rest header front other = tt
other_frames request memory (Some more) u rest header front other = has_other_frames request memory (u ++ more) (rest ++ more) header (reads_front-append u more (Pcap header) rest front) other

parts : (s text closing printed left : List ℕ) → text ++ closing ≡ printed ++ left → (s ++ text) ++ closing ≡ (s ++ printed) ++ left
parts s text closing printed left e = grind (arith, append_assoc)

-- why a run fails
cause_then : (P Q N F D P' D' : Type 0) (e : Failure) → (P → P') → (D → D') → IsCause P N Q F D e → IsCause P' N Q F D' e
cause_then P Q N F D P' D' failure.Read f g c = (f c.0, c.1, g c.2)
cause_then P Q N F D P' D' failure.Write f g c = c
cause_then P Q N F D P' D' failure.Count f g c = (c.0, g c.1)

-- no read fails, if none does in two parts
unfailed_then : {R : Type 0} (has_failed : R → Type 0) (a b d c : Input R) → NoReadFails has_failed a b → d.source ≡ b.source → NoReadFails has_failed d c → NoReadFails has_failed a c
unfailed_then has_failed a b d c first same later = λ x. first (subst has_failed same (later x))

write_is : ¬ (failure.Write ≡ failure.Read)
write_is e = grind arith

count_is : ¬ (failure.Count ≡ failure.Read)
count_is e = grind arith

-- a read failed only if more was wanted
wanted_of : (P Q full wants fine : Type 0) (e : Failure) (rest left : List ℕ) → Because P Q full e wants rest left → (¬ (e ≡ failure.Read) → fine) → fine ⊎ (wants × (rest ≡ []))
wanted_of P Q full wants fine failure.Read rest left b other = inr (b.0, b.1)
wanted_of P Q full wants fine failure.Write rest left b other = inl (other write_is)
wanted_of P Q full wants fine failure.Count rest left b other = inl (other count_is)

-- ---- a listing

module _ {R W V : Type 0} (remaining : R → Option (List ℕ)) (contents : W → Option (List ℕ)) (also : V → Option (List ℕ)) (P : R → Type 0) (Q : W → Type 0) (Q' : V → Type 0) (request : Request) (memory : Memory) where
  module _ (capture : Capture) (a c : Input R) (o m n : Output W) (p : Output V) where
    -- some records are told, and the run fails
    fails : (e kind : Failure) (b : Breaks remaining contents request P Q (first_place memory capture) e a c o m) → Prints contents m n [] → (¬ (e ≡ failure.Read) → NoReadFails P a c)
        → IsCause (CannotRead P c × WantsMore request b.tells.last b.tells.end) (b.tells.rest ≡ []) (Q n.sink) (¬ HasRoom b.tells.last)
        (Prints contents o n (b.tells.printed ++ b.tells.left) × (pending n ≡ [])) kind
        → FailsListing remaining contents P Q request memory capture kind a c o n p p
    fails e kind b handed unfailed cause = record {
      got = b.got;
      reads = b.reads;
      front = b.tells.front;
      rest = b.tells.rest;
      whole = b.tells.whole;
      text = b.tells.printed ++ b.tells.left;
      totals = b.tells.last;
      end = b.tells.end;
      lists = b.tells.lists;
      printed = b.tells.printed;
      unprinted = b.tells.left ++ (listed request (b.tells.printed ++ b.tells.left) b.tells.last b.tells.end).closing;
      parts = append_assoc b.tells.printed b.tells.left (listed request (b.tells.printed ++ b.tells.left) b.tells.last b.tells.end).closing;
      prints = prints_then contents o m n b.tells.printed b.tells.prints handed;
      errors = refl;
      wanted = wanted_of _ _ _ (WantsMore request b.tells.last b.tells.end) (NoReadFails P a c) e b.tells.rest b.tells.left b.tells.cause unfailed;
      cause = cause;
    }

    -- since a write failed
    pub broken : (e : Failure) → Breaks remaining contents request P Q (first_place memory capture) e a c o m → Prints contents m n [] → Q n.sink → (¬ (e ≡ failure.Read) → NoReadFails P a c)
        → FailsListing remaining contents P Q request memory capture failure.Write a c o n p p
    broken e b handed failed unfailed = fails e failure.Write b handed unfailed failed

    cause_of : (e : Failure) (wants full : Type 0) (rest printed left : List ℕ) → Because (CannotRead P c) (Q m.sink) full e wants rest left → ¬ (e ≡ failure.Write) → Prints contents o n printed → pending n ≡ []
        → IsCause (CannotRead P c × wants) (rest ≡ []) (Q n.sink) full (Prints contents o n (printed ++ left) × (pending n ≡ [])) e
    cause_of failure.Read wants full rest printed left b other wrote all = ((b.3, b.0), b.1, (rw (b.2, append-nil printed) wrote, all))
    cause_of failure.Write wants full rest printed left b other wrote all = absurd (other refl)
    cause_of failure.Count wants full rest printed left b other wrote all = (b.0, (rw (b.1, append-nil printed) wrote, all))

    -- or a read failed or a count was full
    pub broken_off : (e : Failure) → ¬ (e ≡ failure.Write) → Breaks remaining contents request P Q (first_place memory capture) e a c o m → Prints contents m n [] → pending n ≡ [] → (¬ (e ≡ failure.Read) → NoReadFails P a c)
        → FailsListing remaining contents P Q request memory capture e a c o n p p
    broken_off e other b handed all unfailed = fails e e b handed unfailed
        (cause_of e (WantsMore request b.tells.last b.tells.end) (¬ HasRoom b.tells.last) b.tells.rest b.tells.printed b.tells.left b.tells.cause other
        (prints_then contents o m n b.tells.printed b.tells.prints handed) all)

    -- all is told
    module _ (totals : Totals) (end : Option End) (b : Ends remaining contents request (first_place memory capture) totals end a c o m) where
      -- and then a write failed
      pub not_closed : PrintsFront contents m n (listed request [] totals end).closing → Q n.sink → NoReadFails P a c → FailsListing remaining contents P Q request memory capture failure.Write a c o n p p
      not_closed k failed unfailed = record {
        got = b.got;
        reads = b.reads;
        front = unread a ++ b.got;
        rest = [];
        whole = sym (append-nil (unread a ++ b.got));
        text = b.told.text;
        totals = totals;
        end = end;
        lists = b.told.lists;
        printed = b.told.text ++ k.front;
        unprinted = k.rest;
        parts = ap (λ s. b.told.text ++ s) k.whole ∙ sym (append_assoc b.told.text k.front k.rest);
        prints = prints_both contents o m n b.told.text k.front b.told.prints k.prints;
        errors = refl;
        wanted = inl unfailed;
        cause = failed;
      }

      writes : (q : Output V) (s : Status) (records : List ℕ) → IsTold contents request (first_place memory capture) totals end o m records → s ≡ status_at end → Prints contents m n (listed request [] totals end).closing → pending n ≡ []
          → Reports also Q' p q (listed request [] totals end).errors → WritesListing contents also Q' request memory capture records s o n p q
      writes q s records told ended closing all said = record {
        text = told.text;
        totals = totals;
        end = end;
        lists = told.lists;
        ended = ended;
        prints = prints_both contents o m n told.text _ told.prints closing;
        all = all;
        errors = said;
      }

      -- or all is written
      pub closed : (q : Output V) (s : Status) → s ≡ status_at end → Prints contents m n (listed request [] totals end).closing → pending n ≡ [] → Reports also Q' p q (listed request [] totals end).errors
          → IfSome (unlisted remaining a) (λ records. WritesListing contents also Q' request memory capture records s o n p q)
      closed q s ended closing over said =
          let read = all_read (remaining a.source) (remaining c.source) (unread a) b.got b.reads.gave in
          elim b.all [
            | inl at_end ↦ Consumes-whole (unlisted remaining a) (remaining c.source) (unread a ++ b.got) _ read at_end (writes q s (unread a ++ b.got) b.told ended closing over said)
            | inr any ↦ and_any (unlisted remaining a) (remaining c.source) (unread a ++ b.got) _ read (λ rest. writes q s ((unread a ++ b.got) ++ rest) (any rest) ended closing over said)
          ]

  -- ---- a run, whose front is read from what `a` had, and is left to `b`

  module _ (a b : Input R) (t : Takes remaining a b []) where
    -- a read fails before the front is there
    pub header_broken : (o : Output W) (p : Output V) → pending o ≡ [] → LacksFront (unread b) → CannotRead P b → Fails remaining contents P Q request memory failure.Read a b o o p p
    header_broken o p fresh few failed = record {
      got = t.got;
      reads = t.reads;
      rest = [];
      outcome = refused (capture_error_line (capture.CutOff few.0));
      is_outcome = inr (refl, record { error = few.0; front = subst (λ s. ReadsFront s (Err (capture.CutOff few.0))) (sym t.takes) few.1; outcome_of = refl });
      output = record { front = []; rest = []; whole = refl; gets = Appends-nil (contents o.sink) };
      errors = refl;
      wanted = inr (tt, refl);
      cause = ((failed, tt), refl, Appends-nil (contents o.sink));
    }

    -- the run ends with this line
    pub refuses : (o : Output W) (p q : Output V) (line : List ℕ) → IfSome (unlisted remaining b) (λ input. IsOutcome request memory input (refused line)) → Reports also Q' p q line
        → IfSome (unlisted remaining a) (λ input. Writes contents also Q' (IsOutcome request memory input) (refused line).status o o p q)
    refuses o p q line is said = from_records (remaining a.source) (remaining b.source) (unread a) (unread b) t.got [] _ _ t.reads.gave t.takes (λ input found. record {
      outcome = refused line;
      is_outcome = found;
      ended = refl;
      output = Appends-nil (contents o.sink);
      errors = said;
    }) is

    -- the blocks are listed after what stands before them
    module _ (found : Capture) (is : IsCapture (unread b) found (drop (header_len found) (unread b))) where
      abbrev pub head : List ℕ
      head = take (header_len found) (unread b)

      abbrev pub kept : List ℕ
      kept = kept_if (copies request.mode) head

      is_capture : (more : List ℕ) → IsCapture (unread b ++ more) found (drop (header_len found) (unread b) ++ more)
      is_capture more = record { front = reads_front-append (unread b) more found (drop (header_len found) (unread b)) is.front; is_read = is.is_read }

      front_is : (more : List ℕ) → front_of request found (unread b ++ more) ≡ kept
      front_is more = ap (kept_if (copies request.mode)) (take-append-le (header_len found) (unread b) more (header_there (unread b) found _ is.front))

      all_of : (more : List ℕ) → unread b ++ more ≡ head ++ (drop (header_len found) (unread b) ++ more)
      all_of more = ap (λ s. s ++ more) (sym (take-append-drop (header_len found) (unread b))) ∙ append_assoc head (drop (header_len found) (unread b)) more

      is_listed : (more text : List ℕ) (totals : Totals) (end : Option End) → Lists request (first_place memory found) (drop (header_len found) (unread b) ++ more) text totals end → IsOutcome request memory (unread b ++ more) (listed request (kept ++ text) totals end)
      is_listed more text totals end l =
          let outcome : IsListed request memory (unread b ++ more) (listed request (kept ++ text) totals end) = record {
            capture = found;
            blocks = drop (header_len found) (unread b) ++ more;
            is = is_capture more;
            lists = record { text = text; totals = totals; end = end; lists = l; outcome_of = ap (λ s. listed request (s ++ text) totals end) (sym (front_is more)) };
          } in
          inl outcome

      listed_to : (read more front rest text : List ℕ) (totals : Totals) (end : Option End) → read ≡ unread b ++ more → drop (header_len found) (unread b) ++ more ≡ front ++ rest → Lists request (first_place memory found) front text totals end
          → IsListedTo request memory read rest (listed request (kept ++ text) totals end)
      listed_to read more front rest text totals end e parts l = record {
        capture = found;
        blocks = front;
        is = rw (e, sym parts) (is_capture more);
        lists = record { text = text; totals = totals; end = end; lists = l; outcome_of = rw e (ap (λ s. listed request (s ++ text) totals end) (sym (front_is more))) };
      }

      module _ (d : Input R) (o m : Output W) (p : Output V) (fresh : pending o ≡ []) where
        -- what stands before the blocks is not written
        pub not_begun : Prints contents o m [] → Q m.sink → NoReadFails P a b → Fails remaining contents P Q request memory failure.Write a b o m p p
        not_begun kept_out failed unfailed = record {
          got = t.got;
          reads = t.reads;
          rest = drop (header_len found) (unread b);
          outcome = listed request (kept ++ []) (first_totals (is_some memory)) None;
          is_outcome = inl (listed_to (unread a ++ t.got) [] [] (drop (header_len found) (unread b)) [] (first_totals (is_some memory)) None (t.takes ∙ sym (append-nil (unread b))) (append-nil (drop (header_len found) (unread b))) ends);
          output = printed_front contents o m [] _ fresh kept_out;
          errors = refl;
          wanted = inl unfailed;
          cause = failed;
        }

        module _ (u : Takes remaining b d head) (rest_is : unread d ≡ drop (header_len found) (unread b)) (begun : Prints contents o m kept) (c : Input R) (n : Output W) (q : Output V) where
          takes : Takes remaining a d head
          takes = takes_both remaining a b d [] head t u

          pub lists_by : (r : Result Status Failure) → IfOk r (λ s. IfSome (unlisted remaining d) (λ blocks. WritesListing contents also Q' request memory found blocks s m n p q))
              → IfOk r (λ s. IfSome (unlisted remaining a) (λ input. Writes contents also Q' (IsOutcome request memory input) s o n p q))
          lists_by (Err e) w = tt
          lists_by (Ok s) w = from_rest (remaining a.source) (remaining d.source) (unread a) (unread d) takes.got head _ _ takes.reads.gave takes.takes
              (λ more x. record {
                outcome = listed request (kept ++ x.text) x.totals x.end;
                is_outcome = rw (rest_is, sym (all_of more)) (is_listed more x.text x.totals x.end (rw rest_is at x.lists));
                ended = x.ended;
                output = rw (append_assoc kept x.text _) (printed_all contents o n _ fresh (prints_both contents o m n kept _ begun x.prints) x.all);
                errors = x.errors;
              }) w

          read_is : (got : List ℕ) → unread a ++ (takes.got ++ got) ≡ unread b ++ got
          read_is got =
              sym (append_assoc (unread a) takes.got got) ∙ (ap (λ s. s ++ got) takes.takes ∙ (ap (λ v. (head ++ v) ++ got) rest_is ∙ ap (λ s. s ++ got) (take-append-drop (header_len found) (unread b))))

          open_at : (totals : Totals) (end : Option End) (text : List ℕ) → WantsMore request totals end → IsOpen request (listed request text totals end)
          open_at totals None text wants = wants
          open_at totals (Some (CutOff e)) text wants = tt
          open_at totals (Some _) text wants = absurd wants

          pub listing_fails_by : NoReadFails P a b → d.source ≡ b.source → (r : Result Status Failure) → IfErr r (λ e. FailsListing remaining contents P Q request memory found e d c m n p q)
              → IfErr r (λ e. Fails remaining contents P Q request memory e a c o n p q)
          listing_fails_by unfailed same (Ok s) f = tt
          listing_fails_by unfailed same (Err e) f = record {
            got = takes.got ++ f.got;
            reads = reads_both remaining a d c takes.got f.got takes.reads f.reads;
            rest = f.rest;
            outcome = listed request (kept ++ f.text) f.totals f.end;
            is_outcome = inl (listed_to _ f.got f.front f.rest f.text f.totals f.end (read_is f.got) (ap (λ v. v ++ f.got) (sym rest_is) ∙ f.whole) f.lists);
            output = rw (parts kept f.text (listed request f.text f.totals f.end).closing f.printed f.unprinted f.parts) (printed_front contents o n (kept ++ f.printed) f.unprinted fresh (prints_both contents o m n kept f.printed begun f.prints));
            errors = f.errors;
            wanted = elim f.wanted [
              | inl later ↦ inl (unfailed_then P a b d c unfailed same later)
              | inr wants ↦ inr (open_at f.totals f.end (kept ++ f.text) wants.0, wants.1)
            ];
            cause = cause_then _ _ _ _ _ _ _ e (λ x. (x.0, open_at f.totals f.end (kept ++ f.text) x.1)) (λ x. printed_all contents o n (kept ++ f.text) fresh (prints_both contents o m n kept f.text begun x.0) x.1) f.cause;
          }
