-- Parts that are written one after the other.
use Rattle.std.proofs.Common.{ℕ, ◌≡◌, ◌+◌, ◌-◌, ◌≤◌, ◌∙◌, List, ◌++◌, ap, arith, drop, length, sym, take}
use Rattle.std.proofs.lemmas.List.{append_assoc, drop-drop}
use Rattle.packet_builder.specs.Writing.{WritesFront, WritesPart}

-- memory that is as it was from a place on is so from a later one on
pub as_it_was : (m end : ℕ) (old new : List ℕ) → m ≤ end → drop m new ≡ drop m old → drop end new ≡ drop end old
as_it_was m end old new order same =
    let rest : end ≡ m + (end - m) = omega (arith, order) in
    ap (λ n. drop n new) rest ∙ sym (drop-drop (end - m) m new) ∙ ap (drop (end - m)) same ∙ drop-drop (end - m) m old ∙ ap (λ n. drop n old) (sym rest)

-- two parts are one
pub both : {P Q R : List ℕ → Type 0} (at m end : ℕ) (old mid new : List ℕ) → WritesPart P at m old mid → WritesPart Q m end mid new → m ≤ end
    → ((p q : List ℕ) → P p → Q q → R (p ++ q)) → WritesPart R at end old new
both at m end old mid new first second order such = record {
  part = first.part ++ second.part;
  is_such = such first.part second.part first.is_such second.is_such;
  joined = second.joined ∙ ap (λ l. l ++ second.part) first.joined ∙ append_assoc (take at old) first.part second.part;
  after = second.after ∙ as_it_was m end old mid order first.after;
  same_len = second.same_len ∙ first.same_len;
}

-- parts from the front on are the front
pub from_front : {P Q : List ℕ → Type 0} (end : ℕ) (old new : List ℕ) → WritesPart P 0 end old new → end ≤ length new → ((p : List ℕ) → P p → Q p)
    → WritesFront Q end old new
from_front {Q = Q} end old new w within such = record {
  front = rw (w.joined) (such w.part w.is_such);
  within = within;
  after = w.after;
}

-- what is written is also something else
pub weaker : {P Q : List ℕ → Type 0} (end : ℕ) (old new : List ℕ) → WritesFront P end old new → ((p : List ℕ) → P p → Q p) → WritesFront Q end old new
weaker end old new w such = record { front = such (take end new) w.front; within = w.within; after = w.after }

-- a part that is written is also something else
pub part_also : {P Q : List ℕ → Type 0} {at end : ℕ} {old new : List ℕ} → WritesPart P at end old new → ((p : List ℕ) → P p → Q p) → WritesPart Q at end old new
part_also w such = record { part = w.part; is_such = such w.part w.is_such; joined = w.joined; after = w.after; same_len = w.same_len }
