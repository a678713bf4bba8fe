-- that the headers of the first fragment are there
use Rattle.std.proofs.Common.{ℕ, ◌≡◌, ◌≢◌, [], List, None, Option, Some, arith, inl, inr, refl}
use Rattle.std.specs.List.{Contains}
use Rattle.std.specs.Option.{option_or}
use Rattle.std.proofs.lemmas.Bool.{cases_eq}
use Rattle.std.proofs.lemmas.List.Elements.{Contains-push_cases}
use Rattle.packet_reassembly.specs.Fragment.{Fragment, IsWhole, Takes}
use Rattle.packet_reassembly.specs.Pool.{AreSameBut, Has, HasFirstHeaders, HaveFirstHeaders, IsAdded, TakesWith, slot_at}
use Rattle.packet_reassembly.specs.declared.fragment_ecn.FragmentEcn.{FragmentEcn}
use Rattle.packet_reassembly.specs.declared.ip_defrag_pool.Added.{Added}
use Rattle.packet_reassembly.specs.declared.ip_defrag_pool.IpDefragSlot.{IpDefragSlot}
use Rattle.packet_reassembly.specs.declared.ip_frag_id.IpFragId.{IpFragId}

-- a complete datagram has a fragment at offset 0
pub whole_has : (slot : IpDefragSlot) (datagram : List ℕ) → HasFirstHeaders slot → (kept : Option (List Fragment)) → slot.buf ≡ kept → IsWhole kept datagram → slot.headers ≢ None
whole_has slot datagram has None is cut = absurd cut
whole_has slot datagram has (Some kept) is cut =
    let (f, contains, covers) = cut.covered 0 cut.some in has.known kept f is contains (omega (arith, covers.0))

-- one slot has changed, which has them if a datagram has it
others_have : (k : ℕ) (old new : List IpDefragSlot) → AreSameBut k old new → ((id : IpFragId) → Has new k id → HasFirstHeaders (slot_at new k)) → HaveFirstHeaders old → HaveFirstHeaders new
others_have k old new same this have = record {
  each = λ j id has. elim (cases_eq j k) [
    | inl e ↦ rw e (this id (rw e at has))
    | inr other ↦ let is = same.1 j other in rw is (have.each j id (omega (arith, has.0, same.0), rw is at has.1))
  ];
}

pub released_have : (k : ℕ) (old new : List IpDefragSlot) → AreSameBut k old new → (slot_at new k).id ≡ None → HaveFirstHeaders old → HaveFirstHeaders new
released_have k old new same free = others_have k old new same (λ id has. absurd (cc))

-- where something is kept, the packet is not dropped
takes_kept : (ecn : FragmentEcn) (old : Option (List Fragment)) (f : Fragment) (kept : List Fragment) → TakesWith ecn old f (Some kept) → Takes old f (Some kept)
takes_kept ecn old f kept takes = takes.1 (λ dropped. let none = takes.0 dropped in cc)

-- a fragment more, with its headers if it is at offset 0
takes_have : (old : Option (List Fragment)) (kept : List Fragment) (f : Fragment) (before came : Option (List ℕ)) → Takes old f (Some kept) → (f.start ≡ 0 → came ≢ None)
    → ((kept : List Fragment) (g : Fragment) → old ≡ Some kept → Contains kept g → g.start ≡ 0 → before ≢ None) → (g : Fragment) → Contains kept g → g.start ≡ 0 → option_or before came ≢ None
takes_have None kept f before came takes brings has g contains front = absurd (cc)
takes_have (Some old) kept f before came takes brings has g contains front = λ none.
    grind (arith, Contains-push_cases old f g ((takes.1 g).0 contains), has old g refl, brings)

-- the same of the slots of a pool
pub added_have : {old : List IpDefragSlot} {id : IpFragId} {timeout now : ℕ} {f : Fragment} {came : Option (List ℕ)} {ecn : FragmentEcn} {added : Added} {new : List IpDefragSlot}
    → IsAdded old id timeout now f came ecn added new → (f.start ≡ 0 → came ≢ None) → HaveFirstHeaders old → HaveFirstHeaders new
added_have {old = old} {id = id} {f = f} {came = came} {added = added} {new = new} is brings have = others_have added.slot old new is.others (λ other has. record {
  known = λ kept g buf contains front. elim is.takes [
    | inl (on, since, headers, ecns, takes) ↦ rw headers (takes_have _ kept f _ came (takes_kept _ _ f kept (rw buf at takes)) brings (have.each added.slot id on.has.0).known g contains front)
    | inr (begins, since, headers, ecns, takes) ↦ rw headers (takes_have (Some []) kept f None came (takes_kept _ (Some []) f kept (rw buf at takes)) brings (λ before h e c _. let none : [] ≡ before = cc in omega (arith, (rw (← none) at c).1)) g contains front)
  ];
}) have
