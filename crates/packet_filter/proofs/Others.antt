-- No word can stand that an error neither names nor leaves out.
use Rattle.std.proofs.Common.{◌≡◌, ℕ, Bool, true, false, ◌||◌, cond, List, [], ◌∷◌, ◌++◌, Option, Some, None, refl, sym, ap, ◌∙◌, subst}
use Rattle.std.specs.Prelude.{IsTrue, is_some, nat_le, option_map}
use Rattle.std.specs.Option.{unwrap_or}
use Rattle.packet_filter.specs.Expected.{is_after_ip, is_after_network, is_after_transport, is_after_vlan, is_going_on, is_joint, is_next, is_open_bracket, leaves_out, leaves_out_at_end, names}
use Rattle.packet_filter.specs.Grammar.{alone, first_head, fits, masked_value_of, provided, value_of, ipv4_of}
use Rattle.packet_filter.specs.Private.Machine.{State, after, after_network, after_protocol, after_transport, after_vlan, after_word, begun_at, complete, expected_after, expected_of, expected_value, found, head_of_net, is_open, net_address_of, net_at, on_progress, primitive_of_net, put, qualifiers_doing, qualifiers_of, settled_at, settled_doing, step_net, step_operand, step_operator, step_progress, step_state, step_within, values_after, version_of, whole, within_at}
use Rattle.packet_filter.specs.declared.address.Address.{Address}
use Rattle.packet_filter.specs.declared.address.Address.TheVariants.{V4, V6}
use Rattle.packet_filter.specs.declared.expected.Expected.{Expected}
use Rattle.packet_filter.specs.declared.expected.Expected.TheVariants as expected
use Rattle.packet_filter.specs.declared.expression.Direction.{Direction}
use Rattle.packet_filter.specs.declared.expression.Layer.TheVariants as layer
use Rattle.packet_filter.specs.declared.expression.Network.{Network}
use Rattle.packet_filter.specs.declared.expression.Network.TheVariants as network
use Rattle.packet_filter.specs.declared.expression.Operator.{Operator as Joiner}
use Rattle.packet_filter.specs.declared.expression.Operator.TheVariants.{And, Or}
use Rattle.packet_filter.specs.declared.expression.Primitive.{Primitive}
use Rattle.packet_filter.specs.declared.expression.Primitive.TheVariants as says
use Rattle.packet_filter.specs.declared.expression.Transport.{Transport}
use Rattle.packet_filter.specs.declared.expression.Version.{Version}
use Rattle.packet_filter.specs.declared.filter.Step.{Step}
use Rattle.packet_filter.specs.declared.filter.Step.TheVariants as step
use Rattle.packet_filter.specs.declared.head.Head.{Head}
use Rattle.packet_filter.specs.declared.head.Head.TheVariants as head
use Rattle.packet_filter.specs.declared.machine.Doing.{Doing}
use Rattle.packet_filter.specs.declared.machine.Doing.TheVariants.{Mask, Net, Operand, Within, Operator}
use Rattle.packet_filter.specs.declared.machine.Waiting.{Waiting}
use Rattle.packet_filter.specs.declared.machine.Waiting.TheVariants as waiting
use Rattle.packet_filter.specs.declared.partial.NetAddress.{NetAddress}
use Rattle.packet_filter.specs.declared.partial.Partial.{Partial}
use Rattle.packet_filter.specs.declared.partial.Partial.TheVariants as partial
use Rattle.packet_filter.specs.declared.partial.Progress.{Progress}
use Rattle.packet_filter.specs.declared.partial.Progress.TheVariants.{More, Done, Foreign}
use Rattle.packet_filter.specs.declared.partial.Scope.{Scope}
use Rattle.packet_filter.specs.declared.partial.Scope.TheVariants as scope
use Rattle.packet_filter.specs.declared.token.Token.{Token}
use Rattle.packet_filter.specs.declared.token.Token.TheVariants as token
use Rattle.packet_filter.proofs.Complete.{not_some, not_true, some_same}
use Rattle.packet_filter.proofs.Sound.{net_word}

-- ---- a word that is taken is one of these

abbrev pub Only : Bool → Option State → Type 0
Only true o = Unit {0}
Only false None = Unit {0}
Only false (Some s) = ⊥

pub only : (b : Bool) (o : Option State) (s : State) → Only b o → o ≡ Some s → IsTrue b
only true o s h e = refl
only false None s h e = cc
only false (Some x) s h e = absurd h

only_true : (b : Bool) (o : Option State) → b ≡ true → Only b o
only_true b o e = subst (λ c. Only c o) (sym e) tt

only_none : (b : Bool) (o : Option State) → o ≡ None → Only b o
only_none true o e = tt
only_none false o e = subst (Only false) (sym e) tt

only_or : (b c : Bool) (o : Option State) → Only b o → Only (b || c) o
only_or true c o h = tt
only_or false true o h = tt
only_or false false o h = h

or_true : (b c : Bool) → c ≡ true → (b || c) ≡ true
or_true true c e = refl
or_true false c e = e

wider : (a b c : Bool) (o : Option State) → (b ≡ true → c ≡ true) → Only (a || b) o → Only (a || c) o
wider true b c o f h = tt
wider false true c o f h = only_true c o (f refl)
wider false false c o f h = only_or false c o h

abbrev No : Bool → Type 0
No true = ⊥
No false = Unit {0}

no_only : (b : Bool) (o : Option State) → (No b → Only false o) → Only b o
no_only true o f = tt
no_only false o f = f tt

-- ---- operators

operator_only : (c : Option Joiner) (h : Head) (w : Token) (ws : List Waiting) (out : List Step) → Only (is_next c (is_open ws) w) (step_operator c h w ws out)
operator_only None h (token.Operator o) ws out = tt
operator_only (Some And) h (token.Operator And) ws out = tt
operator_only (Some And) h (token.Operator Or) ws out = tt
operator_only (Some Or) h (token.Operator And) ws out = tt
operator_only (Some Or) h (token.Operator Or) ws out = tt
operator_only c h token.Close (waiting.Open g v ∷ ws) out = tt
operator_only c h token.Close _ out = tt
operator_only c h _ ws out = tt

complete_only : (h : Head) (ws : List Waiting) (out : List Step) (w : Token) → Only (names (expected_of (complete h ws out)) w) (after w (complete h ws out))
complete_only h [] out w = operator_only None h w [] out
complete_only h (waiting.Open g v ∷ ws) out w = operator_only None h w (waiting.Open g v ∷ ws) out
complete_only h (waiting.Not ∷ ws) out w = complete_only h ws (out ++ step.Not ∷ []) w
complete_only h (waiting.Head ∷ ws) out w = complete_only h ws out w
complete_only h (waiting.Operator o ∷ ws) out w = operator_only (Some o) h w ws (out ++ step.Operator o ∷ [])

no_operator : (c : Option Joiner) (h : Head) (w : Token) (ws : List Waiting) (out : List Step) → No (is_joint w) → Only false (step_operator c h w ws out)
no_operator None h (token.Operator o) ws out n = absurd n
no_operator (Some And) h (token.Operator o) ws out n = absurd n
no_operator (Some Or) h (token.Operator o) ws out n = absurd n
no_operator c h token.Close ws out n = absurd n
no_operator c h _ ws out n = tt

no_after : (h : Head) (ws : List Waiting) (out : List Step) (w : Token) → No (is_joint w) → Only false (after w (complete h ws out))
no_after h [] out w n = no_operator None h w [] out n
no_after h (waiting.Open g v ∷ ws) out w n = no_operator None h w (waiting.Open g v ∷ ws) out n
no_after h (waiting.Not ∷ ws) out w n = no_after h ws (out ++ step.Not ∷ []) w n
no_after h (waiting.Head ∷ ws) out w n = no_after h ws out w n
no_after h (waiting.Operator o ∷ ws) out w n = no_operator (Some o) h w ws (out ++ step.Operator o ∷ []) n

joint_only : (h : Head) (ws : List Waiting) (out : List Step) (w : Token) → Only (is_joint w) (after w (complete h ws out))
joint_only h ws out w = no_only (is_joint w) _ (no_after h ws out w)

-- what a complete primitive leaves out
abbrev Left : (Expected → Token → Bool) → State → Token → Bool
Left is s w = names (expected_of s) w || is (expected_of s) w

bracket_left : (h : Head) (ws : List Waiting) (out : List Step) → Left leaves_out (complete h ws out) token.OpenBracket ≡ true
bracket_left h [] out = refl
bracket_left h (waiting.Open g v ∷ ws) out = refl
bracket_left h (waiting.Not ∷ ws) out = bracket_left h ws (out ++ step.Not ∷ [])
bracket_left h (waiting.Head ∷ ws) out = bracket_left h ws out
bracket_left h (waiting.Operator o ∷ ws) out = refl

goes_left : (h : Head) (ws : List Waiting) (out : List Step) (w : Token) → is_going_on w ≡ true → Left leaves_out_at_end (complete h ws out) w ≡ true
goes_left h [] out w e = or_true _ _ e
goes_left h (waiting.Open g v ∷ ws) out w e = or_true _ _ e
goes_left h (waiting.Not ∷ ws) out w e = goes_left h ws (out ++ step.Not ∷ []) w e
goes_left h (waiting.Head ∷ ws) out w e = goes_left h ws out w e
goes_left h (waiting.Operator o ∷ ws) out w e = or_true _ _ e

-- ---- values

given : (b : Bool) (p q r : Primitive) → provided b p ≡ Some r → is_some (provided b q) ≡ true
given true p q r e = refl
given false p q r e = cc

same_fits : (n : Option Network) (a : Address) → fits (option_map network.Ip (version_of n)) a ≡ fits n a
same_fits None a = refl
same_fits (Some (network.Ip v)) a = refl
same_fits (Some network.Arp) a = refl
same_fits (Some network.Rarp) a = refl

value_named : (h : Head) (w : Token) (p : Primitive) → value_of w h ≡ Some p → names (expected_value h) w ≡ true
value_named (head.Host n d) (token.Address a) p e = rw (same_fits n a) (given _ _ _ _ e)
value_named (head.Net n d) (token.Address a) p e = rw (same_fits n a) (given _ _ _ _ e)
value_named (head.Net n d) (token.Prefix a bits) p e = rw (same_fits n a) (given _ _ _ _ e)
value_named (head.Net n d) (token.Front a bits) p e = rw (same_fits n (V4 a)) (given _ _ _ _ e)
value_named (head.Net n d) (token.Number k) p e = rw (same_fits n (V4 0)) (given _ _ _ _ e)
value_named (head.Port t d) (token.Number k) p e = given _ _ _ _ e
value_named (head.Port t d) (token.Service k) p e = refl
value_named (head.PortRange t d) (token.Range low high) p e = given _ _ _ _ e
value_named (head.Proto v) (token.Number k) p e = given _ _ _ _ e
value_named (head.Proto v) (token.IpNumber k) p e = refl
value_named (head.Ether d) (token.Hardware a) p e = refl
value_named head.EtherProto (token.Number k) p e = given _ _ _ _ e
value_named head.EtherProto (token.TypeName k) p e = refl
value_named _ _ p e = absurd (not_some p e)

net_named : (h : Head) (w : Token) (a : NetAddress) → net_address_of w (Some h) ≡ Some a → names (expected_value h) w ≡ true
net_named h w a e =
    let i = net_word w (Some h) a e in
    value_named h w (primitive_of_net a) (subst (λ g. value_of w g ≡ Some (primitive_of_net a)) (sym (some_same h (head_of_net a) i.head)) i.value)

found_only : (h : Head) (w : Token) (o : Option Primitive) (ws : List Waiting) (out : List Step) → value_of w h ≡ o → Only (names (expected_value h) w) (step_progress (found h o) None w ws out)
found_only h w (Some p) ws out e = only_true (names (expected_value h) w) _ (value_named h w p e)
found_only h w None ws out e = only_none (names (expected_value h) w) None refl

-- alone, and after its head
begun_only : (n : Option NetAddress) (h : Head) (w : Token) (o : Option Primitive) (ws : List Waiting) (out : List Step) → net_address_of w (Some h) ≡ n → value_of w h ≡ o → Only (names (expected_value h) w) (begun_at n (found h o) ws out)
begun_only (Some a) h w o ws out f e = only_true (names (expected_value h) w) _ (net_named h w a f)
begun_only None h w (Some p) ws out f e = only_true (names (expected_value h) w) _ (value_named h w p e)
begun_only None h w None ws out f e = only_none (names (expected_value h) w) None refl

head_only : (n : Option NetAddress) (h : Head) (w : Token) (ws : List Waiting) (out : List Step) → net_address_of w (Some h) ≡ n → Only (names (expected_value h) w) (net_at n (partial.Value h) w ws out)
head_only (Some a) h w ws out f = only_true (names (expected_value h) w) _ (net_named h w a f)
head_only None h w ws out f = found_only h w (value_of w h) ws out refl

abbrev Has : Expected → Token → Bool
Has e w = names e w || leaves_out e w

abbrev Fits : Expected → Token → Option State → Type 0
Fits e w o = Only (Has e w) o

-- a word that the error names
named_fits : (e : Expected) (w : Token) (o : Option State) → Only (names e w) o → Fits e w o
named_fits e w o h = only_or (names e w) (leaves_out e w) o h

not_left : (h : Head) → Has (expected_value h) token.Not ≡ true
not_left (head.Host n d) = refl
not_left _ = refl

open_left : (h : Head) → Has (expected_value h) token.Open ≡ true
open_left (head.Host n d) = refl
open_left _ = refl

operand_only : (h : Head) (w : Token) (ws : List Waiting) (out : List Step) → Fits expected.Operand w (step_operand h false w ws out)
operand_only h token.Not ws out = tt
operand_only h _ ws out = tt

alone_only : (h : Head) (w : Token) (ws : List Waiting) (out : List Step) → Fits (expected_value h) w (step_operand h true w ws out)
alone_only h token.Not ws out = only_true (Has (expected_value h) token.Not) _ (not_left h)
alone_only h token.Open ws out = only_true (Has (expected_value h) token.Open) _ (open_left h)
alone_only h w ws out = named_fits (expected_value h) w _ (begun_only (net_address_of w (Some h)) h w (value_of w h) ws out refl refl)

value_only : (h : Head) (w : Token) (ws : List Waiting) (out : List Step) → Fits (expected_value h) w (step_within (partial.Value h) w ws out)
value_only h token.Not ws out = only_true (Has (expected_value h) token.Not) _ (not_left h)
value_only h token.Open ws out = only_true (Has (expected_value h) token.Open) _ (open_left h)
value_only h w ws out = named_fits (expected_value h) w _ (head_only (net_address_of w (Some h)) h w ws out refl)

mask_only : (a : NetAddress) (o : Option ℕ) (ws : List Waiting) (out : List Step) → Only (is_some o) (on_progress (found (head_of_net a) (masked_value_of (head_of_net a) (Some a.address) o)) ws out)
mask_only a (Some m) ws out = tt
mask_only a None ws out = tt

-- ---- primitives that have begun

direction_only : (s : Scope) (d : Direction) (w : Token) (ws : List Waiting) (out : List Step) → Fits (expected_after s) w (step_within (partial.Directed s d) w ws out)
direction_only (scope.Network n) d (token.Address (V4 a)) ws out = named_fits (expected_after (scope.Network n)) (token.Address (V4 a)) _ (found_only (head.Host (Some n) (Some d)) (token.Address (V4 a)) _ ws out refl)
direction_only (scope.Network n) d (token.Address (V6 a)) ws out = named_fits (expected_after (scope.Network n)) (token.Address (V6 a)) _ (found_only (head.Host (Some n) (Some d)) (token.Address (V6 a)) _ ws out refl)
direction_only scope.Any d (token.Address (V4 a)) ws out = tt
direction_only (scope.Transport t) d (token.Address (V4 a)) ws out = tt
direction_only scope.Ether d (token.Address (V4 a)) ws out = tt
direction_only _ d _ ws out = tt

-- a word that stands alone: another after it belongs to it, or comes after it
values_none : (w : Token) → values_after w None ≡ None
values_none token.Not = refl
values_none token.Open = refl
values_none _ = refl

net_none : (w : Token) → net_address_of w None ≡ None
net_none (token.Address (V4 a)) = refl
net_none (token.Front a bits) = refl
net_none _ = refl

word_steps : (f w : Token) (ws : List Waiting) (out : List Step) → step_within (partial.Word f) w ws out ≡ step_progress (after_word f w) (alone f) w ws out
word_steps f w ws out = ap (λ o. within_at o (partial.Word f) w ws out) (values_none w) ∙ ap (λ o. net_at o (partial.Word f) w ws out) (net_none w)

foreign_only : (p : Primitive) (w : Token) (ws : List Waiting) (out : List Step) → Fits (expected_of (put p first_head ws out)) w (step_progress Foreign (Some p) w ws out)
foreign_only p w ws out = named_fits (expected_of (put p first_head ws out)) w _ (complete_only first_head ws (out ++ step.Test p ∷ []) w)

protocol_only : (v : Option Version) (k : ℕ) (w : Token) (ws : List Waiting) (out : List Step) → Fits (expected_of (put (says.Proto v k) first_head ws out)) w (step_progress (after_protocol (layer.Payload v k) w) (Some (says.Proto v k)) w ws out)
protocol_only v k token.OpenBracket ws out = only_true (Left leaves_out (put (says.Proto v k) first_head ws out) token.OpenBracket) _ (bracket_left first_head ws (out ++ step.Test (says.Proto v k) ∷ []))
protocol_only v k w ws out = foreign_only (says.Proto v k) w ws out

within_only : (p : Partial) (w : Token) (ws : List Waiting) (out : List Step) → qualifiers_of p ≡ None → Fits (expected_of (settled_at (whole p) p ws out)) w (step_within p w ws out)
within_only (partial.Value h) w ws out e = value_only h w ws out
within_only (partial.Directed s d) w ws out e = direction_only s d w ws out
within_only (partial.Word (token.Network (network.Ip v))) w ws out e = cc
within_only (partial.Word (token.Network network.Arp)) w ws out e = cc
within_only (partial.Word (token.Network network.Rarp)) w ws out e = cc
within_only (partial.Word (token.Transport t)) w ws out e = cc
within_only (partial.Word token.Vlan) w ws out e = cc
within_only (partial.Word (token.Protocol v k)) w ws out e = subst (Fits (expected_of (settled_at (alone (token.Protocol v k)) (partial.Word (token.Protocol v k)) ws out)) w) (sym (word_steps (token.Protocol v k) w ws out)) (protocol_only v k w ws out)
within_only (partial.Word (token.EtherType k)) w ws out e = subst (Fits (expected_of (settled_at (alone (token.EtherType k)) (partial.Word (token.EtherType k)) ws out)) w) (sym (word_steps (token.EtherType k) w ws out)) (foreign_only _ w ws out)
within_only (partial.Word token.Broadcast) w ws out e = subst (Fits (expected_of (settled_at (alone token.Broadcast) (partial.Word token.Broadcast) ws out)) w) (sym (word_steps token.Broadcast w ws out)) (foreign_only _ w ws out)
within_only (partial.Word token.Multicast) w ws out e = subst (Fits (expected_of (settled_at (alone token.Multicast) (partial.Word token.Multicast) ws out)) w) (sym (word_steps token.Multicast w ws out)) (foreign_only _ w ws out)
within_only (partial.Word token.Fragment) w ws out e = subst (Fits (expected_of (settled_at (alone token.Fragment) (partial.Word token.Fragment) ws out)) w) (sym (word_steps token.Fragment w ws out)) (foreign_only _ w ws out)
within_only (partial.Word f) w ws out e = only_none (Has (expected_of (settled_at (alone f) (partial.Word f) ws out)) w) _ (word_steps f w ws out)
within_only _ (token.Address (V4 a)) ws out e = tt
within_only _ _ ws out e = tt

-- ---- words that more than an operator can follow

-- a word that is not named is no operator, and does not belong to the primitive
abbrev Misses : Bool → Progress → Token → Type 0
Misses true y w = Unit {0}
Misses false Foreign w = No (is_joint w)
Misses false (More p) w = ⊥
Misses false (Done p h) w = ⊥

progress_only : (b : Bool) (y : Progress) (a : Option Primitive) (w : Token) (ws : List Waiting) (out : List Step) → Misses b y w → Only b (step_progress y a w ws out)
progress_only true y a w ws out m = tt
progress_only false Foreign None w ws out m = tt
progress_only false Foreign (Some p) w ws out m = no_after first_head ws (out ++ step.Test p ∷ []) w m
progress_only false (More p) a w ws out m = absurd m
progress_only false (Done p h) a w ws out m = absurd m

ip_misses : (v : Version) (w : Token) → Misses (is_after_ip w) (after_network (network.Ip v) w) w
ip_misses v token.Source = tt
ip_misses v _ = tt

arp_misses : (w : Token) → Misses (is_after_network w) (after_network network.Arp w) w
arp_misses token.Source = tt
arp_misses _ = tt

rarp_misses : (w : Token) → Misses (is_after_network w) (after_network network.Rarp w) w
rarp_misses token.Source = tt
rarp_misses _ = tt

transport_misses : (t : Transport) (w : Token) → Misses (is_after_transport w) (after_transport t w) w
transport_misses t token.Source = tt
transport_misses t _ = tt

identifier_misses : (b : Bool) (k : ℕ) (y : Progress) → Misses b (cond b y Foreign) (token.Number k)
identifier_misses true k y = tt
identifier_misses false k y = tt

vlan_misses : (w : Token) → Misses (is_after_vlan w) (after_vlan w) w
vlan_misses (token.Number k) = identifier_misses (nat_le k 4095) k _
vlan_misses _ = tt

word_only : (f w : Token) (x e : Expected) (ws : List Waiting) (out : List Step) → Some x ≡ Some e → Misses (names x w) (after_word f w) w → Fits e w (step_within (partial.Word f) w ws out)
word_only f w x e ws out h m =
    subst (λ y. Fits y w (step_within (partial.Word f) w ws out)) (some_same x e h)
    (named_fits x w (step_within (partial.Word f) w ws out) (subst (Only (names x w)) (sym (word_steps f w ws out)) (progress_only (names x w) (after_word f w) (alone f) w ws out m)))

qualified_only : (p : Partial) (e : Expected) (w : Token) (ws : List Waiting) (out : List Step) → qualifiers_of p ≡ Some e → Fits e w (step_within p w ws out)
qualified_only (partial.Word (token.Network (network.Ip v))) e w ws out f = word_only (token.Network (network.Ip v)) w expected.AfterIp e ws out f (ip_misses v w)
qualified_only (partial.Word (token.Network network.Arp)) e w ws out f = word_only (token.Network network.Arp) w expected.AfterNetwork e ws out f (arp_misses w)
qualified_only (partial.Word (token.Network network.Rarp)) e w ws out f = word_only (token.Network network.Rarp) w expected.AfterNetwork e ws out f (rarp_misses w)
qualified_only (partial.Word (token.Transport t)) e w ws out f = word_only (token.Transport t) w expected.AfterTransport e ws out f (transport_misses t w)
qualified_only (partial.Word token.Vlan) e w ws out f = word_only token.Vlan w expected.AfterVlan e ws out f (vlan_misses w)
qualified_only _ e w ws out f = absurd (not_some e f)

net_only : (a : NetAddress) (w : Token) (ws : List Waiting) (out : List Step) → Fits expected.AfterAddress w (step_net a w ws out)
net_only a token.Mask ws out = tt
net_only a w ws out = named_fits expected.AfterAddress w (after w (put (primitive_of_net a) (head_of_net a) ws out)) (joint_only (head_of_net a) ws (out ++ step.Test (primitive_of_net a) ∷ []) w)

-- ---- where a word was refused

pub refused_only : (q : Option Expected) (d : Doing) (w : Token) (ws : List Waiting) (out : List Step) → qualifiers_doing d ≡ q → Fits (unwrap_or q (expected_of (settled_doing d ws out))) w (step_state d w ws out)
refused_only None (Operand h true) w ws out f = alone_only h w ws out
refused_only None (Operand h false) w ws out f = operand_only h w ws out
refused_only None (Within p) w ws out f = within_only p w ws out f
refused_only None (Net a) w ws out f = cc
refused_only None (Mask a) w ws out f = named_fits expected.Mask w _ (mask_only a (ipv4_of w) ws out)
refused_only None (Operator c h) w ws out f = named_fits (expected.Operator c (is_open ws)) w _ (operator_only c h w ws out)
refused_only (Some e) (Within p) w ws out f = qualified_only p e w ws out f
refused_only (Some e) (Net a) w ws out f = subst (λ x. Fits x w (step_net a w ws out)) (some_same expected.AfterAddress e f) (net_only a w ws out)
refused_only (Some e) (Operand h true) w ws out f = cc
refused_only (Some e) (Operand h false) w ws out f = cc
refused_only (Some e) (Mask a) w ws out f = cc
refused_only (Some e) (Operator c h) w ws out f = cc

-- ---- where a text ends

abbrev HasEnd : Expected → Token → Bool
HasEnd e w = names e w || leaves_out_at_end e w

abbrev FitsEnd : Expected → Token → Option State → Type 0
FitsEnd e w o = Only (HasEnd e w) o

bracket_goes : (w : Token) → is_open_bracket w ≡ true → is_going_on w ≡ true
bracket_goes token.OpenBracket e = refl
bracket_goes _ e = absurd (not_true e)

at_end : (e : Expected) (w : Token) (o : Option State) → Fits e w o → FitsEnd e w o
at_end (expected.Operator c closes) w o h = wider (is_next c closes w) (is_open_bracket w) (is_going_on w) o (bracket_goes w) h
at_end _ w o h = h

-- what a primitive goes on with
abbrev Goes : Progress → Bool → Type 0
Goes y true = Unit {0}
Goes Foreign false = Unit {0}
Goes (More p) false = ⊥
Goes (Done p h) false = ⊥

goes_or : (b : Bool) (y : Progress) (p : Primitive) (w : Token) (ws : List Waiting) (out : List Step) → is_going_on w ≡ b → Goes y b → FitsEnd (expected_of (put p first_head ws out)) w (step_progress y (Some p) w ws out)
goes_or true y p w ws out e g = only_true (HasEnd (expected_of (put p first_head ws out)) w) _ (goes_left first_head ws (out ++ step.Test p ∷ []) w e)
goes_or false Foreign p w ws out e g = only_or (names (expected_of (put p first_head ws out)) w) (leaves_out_at_end (expected_of (put p first_head ws out)) w) _ (complete_only first_head ws (out ++ step.Test p ∷ []) w)
goes_or false (More q) p w ws out e g = absurd g
goes_or false (Done q h) p w ws out e g = absurd g

network_goes : (n : Network) (w : Token) → Goes (after_network n w) (is_going_on w)
network_goes (network.Ip v) token.Source = tt
network_goes network.Arp token.Source = tt
network_goes network.Rarp token.Source = tt
network_goes _ _ = tt

transport_goes : (t : Transport) (w : Token) → Goes (after_transport t w) (is_going_on w)
transport_goes t token.Source = tt
transport_goes t _ = tt

vlan_goes : (w : Token) → Goes (after_vlan w) (is_going_on w)
vlan_goes (token.Number k) = tt
vlan_goes _ = tt

word_end : (f w : Token) (p : Primitive) (ws : List Waiting) (out : List Step) → alone f ≡ Some p → Goes (after_word f w) (is_going_on w) → FitsEnd (expected_of (put p first_head ws out)) w (step_within (partial.Word f) w ws out)
word_end f w p ws out e g = subst (FitsEnd (expected_of (put p first_head ws out)) w) (sym (word_steps f w ws out ∙ ap (λ a. step_progress (after_word f w) a w ws out) e)) (goes_or (is_going_on w) (after_word f w) p w ws out refl g)

within_end : (p : Partial) (w : Token) (ws : List Waiting) (out : List Step) → FitsEnd (expected_of (settled_at (whole p) p ws out)) w (step_within p w ws out)
within_end (partial.Word (token.Network n)) w ws out = word_end (token.Network n) w _ ws out refl (network_goes n w)
within_end (partial.Word (token.Transport t)) w ws out = word_end (token.Transport t) w _ ws out refl (transport_goes t w)
within_end (partial.Word token.Vlan) w ws out = word_end token.Vlan w _ ws out refl (vlan_goes w)
within_end p w ws out = at_end (expected_of (settled_at (whole p) p ws out)) w _ (within_only p w ws out refl)

net_end : (a : NetAddress) (w : Token) (ws : List Waiting) (out : List Step) → FitsEnd (expected_of (put (primitive_of_net a) (head_of_net a) ws out)) w (step_net a w ws out)
net_end a token.Mask ws out = only_true (HasEnd (expected_of (put (primitive_of_net a) (head_of_net a) ws out)) token.Mask) _ (goes_left (head_of_net a) ws (out ++ step.Test (primitive_of_net a) ∷ []) token.Mask refl)
net_end a w ws out = only_or (names (expected_of (put (primitive_of_net a) (head_of_net a) ws out)) w) (leaves_out_at_end (expected_of (put (primitive_of_net a) (head_of_net a) ws out)) w) _ (complete_only (head_of_net a) ws (out ++ step.Test (primitive_of_net a) ∷ []) w)

pub end_only : (d : Doing) (w : Token) (ws : List Waiting) (out : List Step) → FitsEnd (expected_of (settled_doing d ws out)) w (step_state d w ws out)
end_only (Operand h true) w ws out = at_end (expected_value h) w _ (alone_only h w ws out)
end_only (Operand h false) w ws out = at_end expected.Operand w _ (operand_only h w ws out)
end_only (Within p) w ws out = within_end p w ws out
end_only (Net a) w ws out = net_end a w ws out
end_only (Mask a) w ws out = at_end expected.Mask w _ (named_fits expected.Mask w _ (mask_only a (ipv4_of w) ws out))
end_only (Operator c h) w ws out = at_end (expected.Operator c (is_open ws)) w _ (named_fits (expected.Operator c (is_open ws)) w _ (operator_only c h w ws out))
