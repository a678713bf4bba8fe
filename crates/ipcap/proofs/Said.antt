-- A line on what failed.
use Rattle.std.proofs.Common.{ℕ, List, ◌++◌, Option, Some, None, [], Result, Ok, Err, IfSome, OnErr, OnOk, append-nil, inl, inr, ap, refl, sym, ◌∙◌}
use Rattle.std.specs.Io.KnownBytes.{Appends, Keeps}
use Rattle.std.specs.declared.io.Error.{Error}
use Rattle.ipcap.specs.Faults.{IsReason, Says, fault_line}
use Rattle.ipcap.specs.Streams.{Prints, PrintsFront, Reports}
use Rattle.ipcap.specs.declared.output.Output.{Output}
use Rattle.ipcap.proofs.Runs.{front_then, prints_both, prints_then}

module _ {W : Type 0} (contents : W → Option (List ℕ)) (a b c d : Output W) (first second : List ℕ) (begun : Prints contents a b first) where
  -- a piece of a line is printed, and nothing more
  pub piece_begun : (text : List ℕ) → Prints contents b c [] → PrintsFront contents a c (first ++ text)
  piece_begun text kept = record { front = first; rest = text; whole = refl; prints = prints_then contents a b c first begun kept }

  -- two pieces of it are printed, and the rest
  pub pieces_printed : {T E : Type 0} (r : Result T E) (rest : List ℕ) → Prints contents b c second → OnOk r (Prints contents c d rest) → OnOk r (Prints contents a d (first ++ (second ++ rest)))
  pieces_printed (Ok x) rest p q = prints_both contents a b d first (second ++ rest) begun (prints_both contents b c d second rest p q)
  pieces_printed (Err e) rest p q = tt

  -- or a front of that
  pub front_of_pieces : {T E : Type 0} (r : Result T E) (rest : List ℕ) → Prints contents b c second → OnErr r (PrintsFront contents c d rest) → OnErr r (PrintsFront contents a d (first ++ (second ++ rest)))
  front_of_pieces (Ok x) rest p q = tt
  front_of_pieces (Err e) rest p q = front_then contents a b d first (second ++ rest) begun (front_then contents b c d second rest p q)

module _ {W : Type 0} (contents : W → Option (List ℕ)) where
  -- nothing of a text is printed
  pub nothing_printed : (a b : Output W) (text : Option (List ℕ)) → Prints contents a b [] → IfSome text (PrintsFront contents a b)
  nothing_printed a b None p = tt
  nothing_printed a b (Some text) p = record { front = []; rest = text; whole = refl; prints = p }

  -- a text is printed, and all is handed over
  pub all_handed_over : (a b c : Output W) (text : Option (List ℕ)) → IfSome text (Prints contents a b) → Prints contents b c [] → IfSome text (Prints contents a c)
  all_handed_over a b c None p q = tt
  all_handed_over a b c (Some text) p q = prints_then contents a b c text p q

  -- or a front of it
  pub front_handed_over : (a b c : Output W) (text : Option (List ℕ)) → IfSome text (Prints contents a b) → Prints contents b c [] → IfSome text (PrintsFront contents a c)
  front_handed_over a b c None p q = tt
  front_handed_over a b c (Some text) p q = record { front = text; rest = []; whole = sym (append-nil text); prints = prints_then contents a b c text p q }

-- what is kept before bytes are appended
kept_first : (a b c : Option (List ℕ)) (s : List ℕ) → Keeps a b → Appends b c s → Appends a c s
kept_first None b c s p q = tt
kept_first (Some x) None c s p q = absurd p
kept_first (Some x) (Some y) None s p q = absurd q
kept_first (Some x) (Some y) (Some z) s p q = q ∙ ap (λ l. l ++ s) p

-- the text of why it failed is made, and the line is reported
pub says : {W : Type 0} (contents : W → Option (List ℕ)) (has_failed : W → Type 0) (is_text : Error → List ℕ → Type 0) (what : List ℕ) (why : Option Error) (reason : Option (List ℕ)) (a b c : Output W)
    → IsReason is_text why reason → Keeps (contents a.sink) (contents b.sink) → Reports contents has_failed b c (fault_line what reason) → Says contents has_failed is_text what why a c
says contents has_failed is_text what why reason a b c is kept (inl got) = inl (record { reason = reason; is_reason = is; gets = kept_first _ _ _ _ kept got })
says contents has_failed is_text what why reason a b c is kept (inr (failed, got)) =
    inr (failed, (reason, record { front = got.front; rest = got.rest; whole = got.whole; gets = kept_first _ _ _ _ kept got.gets }))
