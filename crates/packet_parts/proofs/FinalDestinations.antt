-- A packet has one final destination.
use Rattle.std.proofs.Common.{ℕ, Bool, true, false, take, slice_range, if◌then◌else◌, ◌≡◌, ◌≤◌, ◌-◌, ◌+◌, List, None, Option, Result, Some, ap, arith, drop, length, length-append, length-drop, length-take, refl, sym}
use Rattle.std.proofs.lemmas.Grind.{common_steps}
use Rattle.std.proofs.Common.{[], ◌∷◌, ◌++◌, ◌∙◌, cond, option_map}
use Rattle.std.specs.Option.{option_or}
use Rattle.std.specs.Prelude.{find}
use Rattle.etherparse_net.specs.Ipv4Options.{BeginsWithIpv4Options, IsOnlyIpv4Listing}
use Rattle.etherparse_net.specs.declared.err.ipv4_option_error.Ipv4OptionError.{Ipv4OptionError}
use Rattle.etherparse_net.proofs.IpOptions.{ipv4_options_listed}
use Rattle.packet_parts.proofs.CoveredAddresses.{LeavesOne, followed_len, followed_once}
use Rattle.packet_parts.specs.FinalDestination.{GoesToIpv4, GoesToIpv6, HasFirstRoute, LeavesDestination, is_source_route, has_addresses_left, after_route, cmpr_e, destination_after, first_in_list, last_address, last_compressed, last_in_list, only_address, others_len, segments_left}

-- a header leaves one destination
left_once : LeavesOne LeavesDestination
left_once d n h a b x y = x ∙ sym y

pub goes_once_ipv6 : (d : List ℕ) (n : ℕ) (s : List ℕ) (a b : Option (List ℕ)) → GoesToIpv6 d n s a → GoesToIpv6 d n s b → a ≡ b
goes_once_ipv6 = followed_once LeavesDestination left_once

-- it is an address of 16 bytes, as the destination is
abbrev Is16 : Option (List ℕ) → Type 0
Is16 found = (next : List ℕ) → found ≡ Some next → length next ≡ 16

either_is_16 : (b : Bool) (x y : Option (List ℕ)) → (b ≡ true → Is16 x) → Is16 y → Is16 (if b then x else y)
either_is_16 true x y p q = p refl
either_is_16 false x y p q = q

none_is_16 : Is16 None
none_is_16 next is = cc

list_is_16 : (header : List ℕ) → 1 ≤ segments_left header → Is16 (last_in_list header)
list_is_16 header left next is = grind (arith, common_steps, is, left, length-take (length header - (length header - 16)) (drop (length header - 16) header), length-drop (length header - 16) header)

only_is_16 : (header : List ℕ) → Is16 (only_address header)
only_is_16 header next is = grind (arith, common_steps, is, length-drop 8 header)

compressed_is_16 : (d header : List ℕ) → length d ≡ 16 → Is16 (last_compressed d header)
compressed_is_16 d header len next is =
    let k = cmpr_e header in
    let m = others_len header in
    grind (arith, common_steps, is, len, length-append (take k d) (slice_range header (8 + m) (24 - k + m)), length-take k d, length-take (24 - k + m - (8 + m)) (drop (8 + m) header), length-drop (8 + m) header)

first_is_16 : (header : List ℕ) → Is16 (first_in_list header)
first_is_16 header next is = grind (arith, common_steps, is, length-take 16 (drop 8 header), length-drop 8 header)

last_is_16 : (d header : List ℕ) → length d ≡ 16 → 1 ≤ segments_left header → Is16 (last_address d header)
last_is_16 d header len left = either_is_16 _ (last_in_list header) _ (λ _. list_is_16 header left) (either_is_16 _ (only_address header) _ (λ _. only_is_16 header)
    (either_is_16 _ (last_compressed d header) _ (λ _. compressed_is_16 d header len) (either_is_16 _ (first_in_list header) None (λ _. first_is_16 header) none_is_16)))

after_is_16 : (d : List ℕ) (n : ℕ) (header : List ℕ) → length d ≡ 16 → Is16 (destination_after d n header)
after_is_16 d n header len = either_is_16 _ (last_address d header) (Some d) (λ on. last_is_16 d header len (grind (arith, common_steps, on)))
    (λ next is. grind (arith, common_steps, is, len))

pub goes_len_ipv6 : (d : List ℕ) (n : ℕ) (s f : List ℕ) → length d ≡ 16 → GoesToIpv6 d n s (Some f) → length f ≡ 16
goes_len_ipv6 = followed_len LeavesDestination (λ d n h x len is. after_is_16 d n h len x (sym is))

-- ---- IPv4

-- options up to a place, with the first source route among them
pub record ReadTo (s : List ℕ) (at : ℕ) (route : Option (List ℕ)) : Type 0 where
  pub options : List (List ℕ)
  pub begins : BeginsWithIpv4Options s options (drop at s)
  pub found : find is_source_route options ≡ route

-- the first source route, after one more option
find_more : (options : List (List ℕ)) (option : List ℕ)
    → find is_source_route (options ++ option ∷ []) ≡ option_or (find is_source_route options) (cond (is_source_route option) (Some option) None)
find_more [] option = refl
find_more (x ∷ options) option = by (is_source_route x) (find_more options option)
  where
    by : (b : Bool) → find is_source_route (options ++ option ∷ []) ≡ option_or (find is_source_route options) (cond (is_source_route option) (Some option) None)
        → cond b (Some x) (find is_source_route (options ++ option ∷ [])) ≡ option_or (cond b (Some x) (find is_source_route options)) (cond (is_source_route option) (Some option) None)
    by true e = refl
    by false e = e

pub read_on : (s t option : List ℕ) (at next : ℕ) (route : Option (List ℕ)) → s ≡ t → ReadTo t at route
    → ((options : List (List ℕ)) → BeginsWithIpv4Options s options (drop at s) → BeginsWithIpv4Options s (options ++ option ∷ []) (drop next s))
    → ReadTo t next (option_or route (cond (is_source_route option) (Some option) None))
read_on s t option at next route same read on = record {
  options = read.options ++ option ∷ [];
  begins = (rw same at on) read.options read.begins;
  found = find_more read.options option ∙ ap (λ r. option_or r (cond (is_source_route option) (Some option) None)) read.found;
}

pub or_some : {A : Type 0} (f : A → List ℕ) (first : Option A) (x : A) → option_or (option_map f first) (Some (f x)) ≡ option_map f (option_or first (Some x))
or_some f None x = refl
or_some f (Some y) x = refl

pub or_none : (route : Option (List ℕ)) → option_or route None ≡ route
or_none None = refl
or_none (Some y) = refl

-- what is listed in one way has one first source route
routes_once : (s : List ℕ) (a b : Option (List ℕ)) → HasFirstRoute s a → HasFirstRoute s b → b ≡ a
routes_once s a b x y = y.first ∙ ap (find is_source_route) (x.lists.only y.options y.end y.lists.lists).0 ∙ sym x.first

pub first_of : {s : List ℕ} {options : List (List ℕ)} {end : Result (List ℕ) Ipv4OptionError} {route : Option (List ℕ)} → IsOnlyIpv4Listing s options end
    → find is_source_route options ≡ route → HasFirstRoute s route × ((other : Option (List ℕ)) → HasFirstRoute s other → other ≡ route)
first_of {s = s} {options = options} {end = end} {route = route} listing found =
    let has : HasFirstRoute s route = record { options = options; end = end; lists = listing; first = sym found } in
    (has, λ other. routes_once s route other has)

pub goes_once_ipv4 : (d s a b : List ℕ) → GoesToIpv4 d s a → GoesToIpv4 d s b → b ≡ a
goes_once_ipv4 d s a b g h = h.is_final ∙ ap (after_route d) (routes_once s g.route h.route g.has_route h.has_route) ∙ sym g.is_final

-- it is an address of 4 bytes, as the destination is
last_of_route : (d route : List ℕ) (left : Bool) → has_addresses_left route ≡ left → length d ≡ 4
    → length (if left then slice_range route (length route - 4) (length route) else d) ≡ 4
last_of_route d route false is len = len
last_of_route d route true is len =
    let enough : 4 ≤ length route = grind (arith, common_steps, is) in
    omega (arith, enough, length-take (length route - (length route - 4)) (drop (length route - 4) route), length-drop (length route - 4) route)

after_len : (d : List ℕ) (route : Option (List ℕ)) → length d ≡ 4 → length (after_route d route) ≡ 4
after_len d None len = len
after_len d (Some route) len = last_of_route d route (has_addresses_left route) refl len

pub goes_len_ipv4 : (d s f : List ℕ) → length d ≡ 4 → GoesToIpv4 d s f → length f ≡ 4
goes_len_ipv4 d s f len goes = ap length goes.is_final ∙ after_len d goes.route len

-- every packet has one
pub goes_somewhere_ipv4 : (d s : List ℕ) → (f : List ℕ) × GoesToIpv4 d s f
goes_somewhere_ipv4 d s =
    let listed = ipv4_options_listed s in
    let route = find is_source_route listed.0 in
    (after_route d route, record { route = route; has_route = record { options = listed.0; end = listed.1; lists = listed.2; first = refl }; is_final = refl })
