-- What can stand where a word was refused.
use Rattle.std.proofs.Common.{lit≤, ◌≡◌, ℕ, ◌+◌, ◌*◌, ◌^◌, true, false, List, [], ◌∷◌, ◌++◌, Option, Some, None, refl, sym, ap, ◌∙◌, subst, inl, inr}
use Rattle.std.specs.Prelude.{All, IsTrue, codes}
use Rattle.std.specs.List.{AllByRecursion}
use Rattle.std.proofs.lemmas.List.Elements.{All-from_recursion, recursion_from_All}
use Rattle.std.specs.Fmt.{digits}
use Rattle.std.specs.Option.{unwrap_or}
use Rattle.std.specs.Net.Addr.{ipv4_bits, ipv6_bits}
use Rattle.std.specs.Net.Grammar.{IsGroup}
use Rattle.std.specs.Net.Text.{dotted_text}
use Rattle.std.specs.declared.net.ip_addr.IpAddr.TheVariants as Ip
use Rattle.packet_filter.specs.Addresses.{IsAddress}
use Rattle.packet_filter.specs.Expected.{examples, has_to_follow, possible}
use Rattle.packet_filter.specs.Grammar.{alone, first_head, fits, value_of}
use Rattle.packet_filter.specs.Language.{AreSpelled, CanFollow, CanGoOn, operator_word, other}
use Rattle.packet_filter.specs.Names.{name_of}
use Rattle.packet_filter.specs.Program.{and_then}
use Rattle.packet_filter.specs.Private.Machine.{State, after, complete, completed, expected_after, expected_of, expected_value, expected_within, finish_at, finish_doing, finish_state, found, head_of_net, is_open, level_of, on_progress, outcome, primitive_of_net, qualifiers_doing, qualifiers_of, settled, settled_at, settled_doing, step_of, step_progress, version_of, whole}
use Rattle.packet_filter.specs.Text.{Spells, words_of}
use Rattle.packet_filter.specs.Values.{named_value_of}
use Rattle.packet_filter.specs.declared.address.Address.TheVariants.{V4, V6}
use Rattle.packet_filter.specs.declared.expected.Expected.{Expected}
use Rattle.packet_filter.specs.declared.expected.Expected.TheVariants as expected
use Rattle.packet_filter.specs.declared.expression.Direction.{Direction}
use Rattle.packet_filter.specs.declared.expression.Direction.TheVariants as direction
use Rattle.packet_filter.specs.declared.expression.Network.{Network}
use Rattle.packet_filter.specs.declared.expression.Network.TheVariants as network
use Rattle.packet_filter.specs.declared.expression.Operator.{Operator as Joiner}
use Rattle.packet_filter.specs.declared.expression.Operator.TheVariants.{And, Or}
use Rattle.packet_filter.specs.declared.expression.Primitive.{Primitive}
use Rattle.packet_filter.specs.declared.expression.Relation.TheVariants as relation
use Rattle.packet_filter.specs.declared.expression.Size.TheVariants.{Four}
use Rattle.packet_filter.specs.declared.expression.Transport.TheVariants.{Tcp}
use Rattle.packet_filter.specs.declared.expression.Version.{Version}
use Rattle.packet_filter.specs.declared.expression.Version.TheVariants.{Ipv4, Ipv6}
use Rattle.packet_filter.specs.declared.filter.Step.{Step}
use Rattle.packet_filter.specs.declared.filter.Step.TheVariants as step
use Rattle.packet_filter.specs.declared.head.Head.{Head}
use Rattle.packet_filter.specs.declared.head.Head.TheVariants as head
use Rattle.packet_filter.specs.declared.machine.Doing.{Doing}
use Rattle.packet_filter.specs.declared.machine.Doing.TheVariants.{Mask, Net, Operand, Within, Operator}
use Rattle.packet_filter.specs.declared.machine.Waiting.{Waiting}
use Rattle.packet_filter.specs.declared.machine.Waiting.TheVariants as waiting
use Rattle.packet_filter.specs.declared.partial.NetAddress.{NetAddress}
use Rattle.packet_filter.specs.declared.partial.Partial.{Partial}
use Rattle.packet_filter.specs.declared.partial.Partial.TheVariants as partial
use Rattle.packet_filter.specs.declared.partial.Scope.{Scope}
use Rattle.packet_filter.specs.declared.partial.Scope.TheVariants as scope
use Rattle.packet_filter.specs.declared.partial.Use.{Use}
use Rattle.packet_filter.specs.declared.partial.Use.TheVariants.{Limit, Masking}
use Rattle.packet_filter.specs.declared.token.Token.{Token}
use Rattle.packet_filter.specs.declared.token.Token.TheVariants as token
use Rattle.packet_filter.proofs.Complete.{Takes, amid, ether_takes, expects, has_net, has_read, head_takes, network_takes, not_operator, not_some, after_complete, some_same, value_alone}
use Rattle.packet_filter.proofs.Follows.{all_bits, closed_up, closing, closings, ones_4, open_in, stands_can_go_on}
use Rattle.packet_filter.proofs.Runs.{then_some}
use Rattle.packet_filter.proofs.Sound.{Amid, Following, Opens, Stands, StandsAt, net_stands, stands_on, whole_stands}
use Rattle.packet_filter.proofs.Spelled.{spelled_together}

-- ---- words that a state takes

abbrev IsTaken : Option State → Type 0
IsTaken None = ⊥
IsTaken (Some s) = Unit {0}

taken_state : (o : Option State) → IsTaken o → (s : State) × (o ≡ Some s)
taken_state None h = absurd h
taken_state (Some s) h = (s, refl)

is_taken : (o : Option State) (s : State) → o ≡ Some s → IsTaken o
is_taken o s e = subst IsTaken (sym e) tt

record Taken (s : State) (word : List ℕ) : Type 0 where
  token : Token
  says : Spells word token
  taken : IsTaken (step_of s token)

can : {s : State} {word : List ℕ} (t : Token) → Spells word t → IsTaken (step_of s t) → Taken s word
can t h k = record { token = t; says = h; taken = k }

-- each of the words that an error names, and `not` before a value
abbrev Offers : State → Expected → Type 0
Offers s e = AllByRecursion (Taken s) (possible e)

no_some : {A : Type 0} (o : Option A) (x : A) → o ≡ None → o ≡ Some x → ⊥
no_some o x e f = cc

-- ---- addresses

dotted_host : codes "10.0.0.1" ≡ dotted_text 10 0 0 1
unfolding digits
dotted_host = refl

dotted_net : codes "10.0.0.0" ≡ dotted_text 10 0 0 0
unfolding digits
dotted_net = refl

host_4 : IsAddress (codes "10.0.0.1") (Some (V4 (10 * 2 ^ 24 + 1)))
unfolding ipv4_bits
host_4 = (Ip.V4 (record { octets = 10 ∷ 0 ∷ 0 ∷ 1 ∷ [] }), record { a = 10; b = 0; c = 0; d = 1; fit = (lit≤ tt, lit≤ tt, lit≤ tt, lit≤ tt); value = refl; spelled = dotted_host }, refl)

net_4 : IsAddress (codes "10.0.0.0") (Some (V4 (10 * 2 ^ 24)))
unfolding ipv4_bits
net_4 = (Ip.V4 (record { octets = 10 ∷ 0 ∷ 0 ∷ 0 ∷ [] }), record { a = 10; b = 0; c = 0; d = 0; fit = (lit≤ tt, lit≤ tt, lit≤ tt, lit≤ tt); value = refl; spelled = dotted_net }, refl)

local_group : IsGroup (codes "fe80") 0xfe80
local_group = (((lit≤ tt, (lit≤ tt, (lit≤ tt, (lit≤ tt, (lit≤ tt, tt))))), refl), lit≤ tt)

one_group : IsGroup (codes "1") 1
one_group = (((lit≤ tt, (lit≤ tt, tt)), refl), lit≤ tt)

host_6 : IsAddress (codes "fe80::1") (Some (V6 (0xfe80 * 2 ^ 112 + 1)))
unfolding ipv6_bits
host_6 = (
  Ip.V6 (record { segments = 0xfe80 ∷ 0 ∷ 0 ∷ 0 ∷ 0 ∷ 0 ∷ 0 ∷ 1 ∷ [] }),
  inr (record { head_text = codes "fe80"; tail_text = codes "1"; head = 0xfe80 ∷ []; tail = 1 ∷ []; spelled = refl; head_groups = inl (codes "fe80", [], refl, local_group, refl); tail_groups = inl (codes "1", [], refl, one_group, refl); room = lit≤ tt; value = refl }),
  refl,
)

net_6 : IsAddress (codes "fe80::") (Some (V6 (0xfe80 * 2 ^ 112)))
unfolding ipv6_bits
net_6 = (
  Ip.V6 (record { segments = 0xfe80 ∷ 0 ∷ 0 ∷ 0 ∷ 0 ∷ 0 ∷ 0 ∷ 0 ∷ [] }),
  inr (record { head_text = codes "fe80"; tail_text = []; head = 0xfe80 ∷ []; tail = []; spelled = refl; head_groups = inl (codes "fe80", [], refl, local_group, refl); tail_groups = refl; room = lit≤ tt; value = refl }),
  refl,
)

-- ---- values

-- the word is a value of the head
record Valued (h : Head) (word : List ℕ) : Type 0 where
  token : Token
  says : Spells word token
  primitive : Primitive
  is : value_of token h ≡ Some primitive

val : {h : Head} {word : List ℕ} (t : Token) → Spells word t → (p : Primitive) → value_of t h ≡ Some p → Valued h word
val t h p e = record { token = t; says = h; primitive = p; is = e }

says_host_4 : Spells (codes "10.0.0.1") (token.Address (V4 (10 * 2 ^ 24 + 1)))
unfolding name_of named_value_of
says_host_4 = record { address = Some (V4 (10 * 2 ^ 24 + 1)); is = host_4; says = refl }

says_host_6 : Spells (codes "fe80::1") (token.Address (V6 (0xfe80 * 2 ^ 112 + 1)))
unfolding name_of named_value_of
says_host_6 = record { address = Some (V6 (0xfe80 * 2 ^ 112 + 1)); is = host_6; says = refl }

says_net_4 : Spells (codes "10.0.0.0/8") (token.Prefix (V4 (10 * 2 ^ 24)) 8)
unfolding name_of named_value_of
says_net_4 = record { address = Some (V4 (10 * 2 ^ 24)); is = net_4; says = refl }

says_net_6 : Spells (codes "fe80::/10") (token.Prefix (V6 (0xfe80 * 2 ^ 112)) 10)
unfolding name_of named_value_of
says_net_6 = record { address = Some (V6 (0xfe80 * 2 ^ 112)); is = net_6; says = refl }

host_values : (n : Option Network) (d : Option Direction) → AllByRecursion (Valued (head.Host n d)) (examples (expected.Address (version_of n)))
host_values None d = (val _ says_host_4 _ refl, (val _ says_host_6 _ refl, tt))
host_values (Some (network.Ip Ipv4)) d = (val _ says_host_4 _ refl, tt)
host_values (Some (network.Ip Ipv6)) d = (val _ says_host_6 _ refl, tt)
host_values (Some network.Arp) d = (val _ says_host_4 _ refl, tt)
host_values (Some network.Rarp) d = (val _ says_host_4 _ refl, tt)

net_values : (n : Option Network) (d : Option Direction) → AllByRecursion (Valued (head.Net n d)) (examples (expected.Network (version_of n)))
net_values None d = (val _ says_net_4 _ refl, (val _ says_net_6 _ refl, tt))
net_values (Some (network.Ip Ipv4)) d = (val _ says_net_4 _ refl, tt)
net_values (Some (network.Ip Ipv6)) d = (val _ says_net_6 _ refl, tt)
net_values (Some network.Arp) d = (val _ says_net_4 _ refl, tt)
net_values (Some network.Rarp) d = (val _ says_net_4 _ refl, tt)

values_named : (h : Head) → AllByRecursion (Valued h) (examples (expected_value h))
unfolding name_of named_value_of
values_named (head.Host n d) = host_values n d
values_named (head.Net n d) = net_values n d
values_named (head.Port t d) = (val (token.Number 80) refl _ refl, (val (token.Service 80) refl _ refl, tt))
values_named (head.PortRange t d) = (val (token.Range 6000 6063) refl _ refl, tt)
values_named (head.Proto v) = (val (token.Number 6) refl _ refl, (val (token.IpNumber 6) refl _ refl, tt))
values_named (head.Ether d) = (val (token.Hardware (2 ∷ 0 ∷ 0 ∷ 0 ∷ 0 ∷ 1 ∷ [])) refl _ refl, tt)
values_named head.EtherProto = (val (token.Number 0x0806) refl _ refl, (val (token.TypeName 0x0806) refl _ refl, tt))

all_values : (h : Head) → All (Valued h) (examples (expected_value h))
all_values h = All-from_recursion (Valued h) (examples (expected_value h)) (values_named h)

with_not : (h : Head) (s : State) → IsTaken (step_of s token.Not) → AllByRecursion (Taken s) (examples (expected_value h)) → Offers s (expected_value h)
unfolding name_of
with_not (head.Host n d) s t x = (can token.Not refl t, x)
with_not _ s t x = (can token.Not refl t, x)

-- a value alone
alone_offers : (h : Head) (ws : List Waiting) (out : List Step) (ts : List Token) → Opens ws h true ts out → Offers (expects h true ws out) (expected_value h)
alone_offers h ws out ts o = with_not h _ tt (recursion_from_All (Taken (expects h true ws out)) (examples (expected_value h)) (λ k d i.
    let v = all_values h k d i in
    let c = closed_up ws h h true ts out (out ++ step.Test v.primitive ∷ []) o in
    let n = then_some (step_of (expects h true ws out) v.token) (outcome (closings (open_in ws))) c.steps (value_alone true v.token h v.primitive v.is ws out (closings (open_in ws)) (closing (open_in ws)) ∙ c.ends) in
    can v.token v.says (is_taken _ n.0 n.1)))

-- a value of a head that has begun
value_offers : (q : Partial) (h : Head) (ws : List Waiting) (out : List Step) (ts : List Token) → Takes q h → IsTaken (step_of (amid q ws out) token.Not) → Amid q ws out ts → Offers (amid q ws out) (expected_value h)
value_offers q h ws out ts t x m = with_not h _ x (recursion_from_All (Taken (amid q ws out)) (examples (expected_value h)) (λ k d i.
    let v = all_values h k d i in
    let c = closed_up ws m.head h false m.before out (out ++ step.Test v.primitive ∷ []) m.opens in
    let n = then_some (step_of (amid q ws out) v.token) (outcome (closings (open_in ws))) c.steps (t.value v.token v.primitive v.is ws out (closings (open_in ws)) (closing (open_in ws)) ∙ c.ends) in
    can v.token v.says (is_taken _ n.0 n.1)))

-- ---- primitives that have begun

direction_offers : (s : Scope) (d : Direction) (ws : List Waiting) (out : List Step) (ts : List Token) → Amid (partial.Directed s d) ws out ts → Offers (amid (partial.Directed s d) ws out) (expected_after s)
unfolding name_of named_value_of
direction_offers scope.Any d ws out ts m = (can token.Not refl tt, (can token.Host refl tt, (can token.Net refl tt, (can token.Port refl tt, (can token.PortRange refl tt, (can _ says_host_4 tt, tt))))))
direction_offers (scope.Network n) d ws out ts m = value_offers _ (head.Host (Some n) (Some d)) ws out ts (network_takes n d) tt m
direction_offers (scope.Transport t) d ws out ts m = (can token.Port refl tt, (can token.PortRange refl tt, tt))
direction_offers scope.Ether d ws out ts m = value_offers _ (head.Ether (Some d)) ws out ts (ether_takes d) tt m

constant_offers : (u : Use) (ws : List Waiting) (out : List Step) → Offers (amid (partial.Constant u) ws out) expected.Number
unfolding name_of named_value_of
constant_offers (Masking q) ws out = (can (token.Number 64) refl tt, tt)
constant_offers (Limit q mask r) ws out = (can (token.Number 64) refl tt, tt)

listed_offers : (u : Use) (bits : ℕ) (ws : List Waiting) (out : List Step) → Offers (amid (partial.Listed u bits) ws out) expected.Bits
unfolding name_of named_value_of
listed_offers (Masking q) bits ws out = (can token.BitOr refl tt, (can token.Close refl tt, tt))
listed_offers (Limit q mask r) bits ws out = (can token.BitOr refl tt, (can token.Close refl tt, tt))

within_offers : (p : Partial) (ws : List Waiting) (out : List Step) (ts : List Token) → whole p ≡ None → Amid p ws out ts → Offers (amid p ws out) (expected_within p)
unfolding name_of named_value_of
within_offers (partial.Word w) ws out ts e m = absurd (no_some _ _ e m.begun.1)
within_offers partial.Ether ws out ts e m = (can token.Source refl tt, (can token.Destination refl tt, (can token.Host refl tt, (can token.Proto refl tt, (can token.Broadcast refl tt, (can token.Multicast refl tt, (can token.OpenBracket refl tt, tt)))))))
within_offers (partial.Directed s d) ws out ts e m = direction_offers s d ws out ts m
within_offers (partial.Joined s o) ws out ts e m = (can token.Destination refl tt, tt)
within_offers (partial.Value h) ws out ts e m = value_offers _ h ws out ts (head_takes h) tt m
within_offers partial.Less ws out ts e m = (can (token.Number 64) refl tt, tt)
within_offers partial.Greater ws out ts e m = (can (token.Number 64) refl tt, tt)
within_offers partial.First ws out ts e m = (can token.Fragment refl tt, tt)
within_offers partial.Checksum ws out ts e m = (can token.Wrong refl tt, tt)
within_offers (partial.Bracket l) ws out ts e m = (can (token.Number 13) refl tt, (can (token.Number 13) refl tt, (can (token.Place 2 Four) refl tt, tt)))
within_offers (partial.Placed l place size) ws out ts e m = (can token.CloseBracket refl tt, tt)
within_offers (partial.Term q mask) ws out ts e m = (can (token.Relation relation.Equal) refl tt, (can (token.Relation relation.NotEqual) refl tt, (can (token.Relation relation.Less) refl tt, tt)))
within_offers (partial.Constant u) ws out ts e m = constant_offers u ws out
within_offers (partial.Opened u) ws out ts e m = (can (token.Number 64) refl tt, tt)
within_offers (partial.Listed u bits) ws out ts e m = listed_offers u bits ws out
within_offers (partial.Bar u bits) ws out ts e m = (can (token.Number 64) refl tt, tt)

-- words that stand alone, and what can follow them beside an operator
ip_offers : (v : Version) (ws : List Waiting) (out : List Step) → Offers (amid (partial.Word (token.Network (network.Ip v))) ws out) expected.AfterIp
unfolding name_of named_value_of
ip_offers v ws out = (can token.Source refl tt, (can token.Destination refl tt, (can token.Host refl tt, (can token.Net refl tt, (can token.Proto refl tt, (can token.Multicast refl tt, (can token.OpenBracket refl tt, tt)))))))

network_offers : (n : Network) (ws : List Waiting) (out : List Step) → Offers (amid (partial.Word (token.Network n)) ws out) expected.AfterNetwork
unfolding name_of named_value_of
network_offers n ws out = (can token.Source refl tt, (can token.Destination refl tt, (can token.Host refl tt, (can token.Net refl tt, (can token.OpenBracket refl tt, tt)))))

word_offers : (p : Partial) (e : Expected) (ws : List Waiting) (out : List Step) → qualifiers_of p ≡ Some e → Offers (amid p ws out) e
unfolding name_of named_value_of
word_offers (partial.Word (token.Network (network.Ip v))) e ws out f = subst (Offers _) (some_same _ e f) (ip_offers v ws out)
word_offers (partial.Word (token.Network network.Arp)) e ws out f = subst (Offers _) (some_same _ e f) (network_offers network.Arp ws out)
word_offers (partial.Word (token.Network network.Rarp)) e ws out f = subst (Offers _) (some_same _ e f) (network_offers network.Rarp ws out)
word_offers (partial.Word (token.Transport t)) e ws out f = subst (Offers _) (some_same _ e f) ((can token.Source refl tt, (can token.Destination refl tt, (can token.Port refl tt, (can token.PortRange refl tt, (can token.OpenBracket refl tt, tt))))))
word_offers (partial.Word token.Vlan) e ws out f = subst (Offers _) (some_same _ e f) ((can (token.Number 5) refl tt, tt))
word_offers _ e ws out f = absurd (not_some e f)

-- the address of a network, and `mask` after it
net_offers : (a : NetAddress) (ws : List Waiting) (out : List Step) → Offers (has_net a ws out) expected.AfterAddress
unfolding name_of named_value_of
net_offers a ws out = (can token.Mask refl tt, tt)

says_mask : Spells (codes "255.255.255.255") (token.Address (V4 4294967295))
unfolding name_of named_value_of
says_mask = record { address = Some (V4 4294967295); is = ones_4; says = refl }

mask_offers : (a : NetAddress) (ws : List Waiting) (out : List Step) → fits a.network (V4 a.address) ≡ true → Offers (record { doing = Mask a; waiting = ws; steps = out }) expected.Mask
mask_offers a ws out f = (can _ says_mask (is_taken _ _ (ap (λ o. on_progress (found (head_of_net a) o) ws out) (all_bits a f))), tt)

-- ---- operators

operator_offers : (c : Option Joiner) (h : Head) (ws : List Waiting) (out : List Step) → Offers (has_read c h ws out) (expected.Operator c (is_open ws))
unfolding name_of
operator_offers None h (waiting.Open g v ∷ ws) out = (can (token.Operator And) refl tt, (can (token.Operator Or) refl tt, (can token.Close refl tt, tt)))
operator_offers (Some And) h (waiting.Open g v ∷ ws) out = (can (token.Operator And) refl tt, (can token.Close refl tt, tt))
operator_offers (Some Or) h (waiting.Open g v ∷ ws) out = (can (token.Operator Or) refl tt, (can token.Close refl tt, tt))
operator_offers None h _ out = (can (token.Operator And) refl tt, (can (token.Operator Or) refl tt, tt))
operator_offers (Some And) h _ out = (can (token.Operator And) refl tt, tt)
operator_offers (Some Or) h _ out = (can (token.Operator Or) refl tt, tt)

complete_offers : (h : Head) (ws : List Waiting) (out : List Step) → Offers (complete h ws out) (expected_of (complete h ws out))
complete_offers h [] out = operator_offers None h [] out
complete_offers h (waiting.Open g v ∷ ws) out = operator_offers None h (waiting.Open g v ∷ ws) out
complete_offers h (waiting.Not ∷ ws) out = complete_offers h ws (out ++ step.Not ∷ [])
complete_offers h (waiting.Head ∷ ws) out = complete_offers h ws out
complete_offers h (waiting.Operator o ∷ ws) out = operator_offers (Some o) h ws (out ++ step.Operator o ∷ [])

whole_offers : (a : Option Primitive) (p : Partial) (ws : List Waiting) (out : List Step) (ts : List Token) → whole p ≡ a → Amid p ws out ts → Offers (settled_at a p ws out) (expected_of (settled_at a p ws out))
whole_offers (Some a) p ws out ts e m = complete_offers first_head ws (out ++ step.Test a ∷ [])
whole_offers None p ws out ts e m = within_offers p ws out ts e m

settled_offers : (d : Doing) (ws : List Waiting) (out : List Step) (ts : List Token) → StandsAt d ws out ts → Offers (settled_doing d ws out) (expected_of (settled_doing d ws out))
unfolding name_of named_value_of
settled_offers (Operand h true) ws out ts x = alone_offers h ws out ts x
settled_offers (Operand h false) ws out ts x = (can token.Not refl tt, (can token.Open refl tt, (can (token.Transport Tcp) refl tt, (can token.Host refl tt, tt))))
settled_offers (Within p) ws out ts m = whole_offers (whole p) p ws out ts refl m
settled_offers (Net a) ws out ts x = complete_offers (head_of_net a) ws (out ++ step.Test (primitive_of_net a) ∷ [])
settled_offers (Mask a) ws out ts x = mask_offers a ws out x.1.is.fits
settled_offers (Operator c h) ws out ts x = operator_offers c h ws out

-- ---- where an operator cannot stand

-- whether the other can
abbrev Tells : Option Joiner → State → State → Joiner → Type 0
Tells None s x o = step_of s (token.Operator (other o)) ≡ None
Tells (Some c) s x o = IsTaken (step_of x (token.Operator (other o)))

after_tells : (c : Option Joiner) (h : Head) (ws : List Waiting) (out : List Step) (s : State) (o : Joiner) → step_of (has_read c h ws out) (token.Operator o) ≡ None → Tells c s (has_read c h ws out) o
after_tells None h ws out s o e = absurd (no_some _ _ e refl)
after_tells (Some And) h ws out s And e = absurd (no_some _ _ e refl)
after_tells (Some Or) h ws out s Or e = absurd (no_some _ _ e refl)
after_tells (Some And) h ws out s Or e = tt
after_tells (Some Or) h ws out s And e = tt

complete_tells : (h : Head) (ws : List Waiting) (out : List Step) (s : State) (o : Joiner) → step_of (complete h ws out) (token.Operator o) ≡ None → Tells (level_of (complete h ws out).doing) s (complete h ws out) o
complete_tells h [] out s o e = after_tells None h [] out s o e
complete_tells h (waiting.Open g v ∷ ws) out s o e = after_tells None h (waiting.Open g v ∷ ws) out s o e
complete_tells h (waiting.Not ∷ ws) out s o e = complete_tells h ws (out ++ step.Not ∷ []) s o e
complete_tells h (waiting.Head ∷ ws) out s o e = complete_tells h ws out s o e
complete_tells h (waiting.Operator j ∷ ws) out s o e = after_tells (Some j) h ws (out ++ step.Operator j ∷ []) s o e

-- after a word that stands alone
word_joins : (a : Option Primitive) (w : Token) (o : Joiner) (ws : List Waiting) (out : List Step) → alone w ≡ a → step_of (amid (partial.Word w) ws out) (token.Operator o) ≡ and_then (completed a ws out) (after (token.Operator o))
word_joins a w o ws out e = ap (λ x. step_progress x (alone w) (token.Operator o) ws out) (not_operator w o) ∙ ap (λ x. and_then (completed x ws out) (after (token.Operator o))) e

word_tells : (a : Option Primitive) (w : Token) (ws : List Waiting) (out : List Step) (o : Joiner) → alone w ≡ a → step_of (amid (partial.Word w) ws out) (token.Operator o) ≡ None → Tells (level_of (settled_at a (partial.Word w) ws out).doing) (amid (partial.Word w) ws out) (settled_at a (partial.Word w) ws out) o
word_tells None w ws out o e f = word_joins None w (other o) ws out e
word_tells (Some a) w ws out o e f =
    complete_tells first_head ws (out ++ step.Test a ∷ []) (amid (partial.Word w) ws out) o
    (sym (after_complete first_head ws (out ++ step.Test a ∷ []) (token.Operator o)) ∙ sym (word_joins (Some a) w o ws out e) ∙ f)

within_tells : (p : Partial) (ws : List Waiting) (out : List Step) (o : Joiner) → step_of (amid p ws out) (token.Operator o) ≡ None → Tells (level_of (settled_at (whole p) p ws out).doing) (amid p ws out) (settled_at (whole p) p ws out) o
within_tells (partial.Word w) ws out o f = word_tells (alone w) w ws out o refl f
within_tells (partial.Directed s direction.Source) ws out o f = absurd (no_some _ _ f refl)
within_tells (partial.Directed s direction.Destination) ws out o f = refl
within_tells (partial.Directed s direction.Either) ws out o f = refl
within_tells (partial.Directed s direction.Both) ws out o f = refl
within_tells (partial.Value h) ws out o f = refl
within_tells _ ws out o f = refl

operator_tells : (d : Doing) (ws : List Waiting) (out : List Step) (o : Joiner) → step_of (record { doing = d; waiting = ws; steps = out }) (token.Operator o) ≡ None → Tells (level_of (settled_doing d ws out).doing) (record { doing = d; waiting = ws; steps = out }) (settled_doing d ws out) o
operator_tells (Operand h true) ws out o f = refl
operator_tells (Operand h false) ws out o f = refl
operator_tells (Within p) ws out o f = within_tells p ws out o f
operator_tells (Net a) ws out o f =
    let out' = out ++ step.Test (primitive_of_net a) ∷ [] in
    complete_tells (head_of_net a) ws out' (has_net a ws out) o (sym (after_complete (head_of_net a) ws out' (token.Operator o)) ∙ f)
operator_tells (Mask a) ws out o f = refl
operator_tells (Operator c h) ws out o f = after_tells c h ws out (has_read c h ws out) o f

-- ---- texts

whole_settled : (a : Option Primitive) (p : Partial) (ws : List Waiting) (out : List Step) (ts : List Token) → whole p ≡ a → Amid p ws out ts → Stands (settled_at a p ws out) ts
whole_settled (Some a) p ws out ts e m = whole_stands p a ws out ts e m
whole_settled None p ws out ts e m = m

settled_stands : (d : Doing) (ws : List Waiting) (out : List Step) (ts : List Token) → StandsAt d ws out ts → Stands (settled_doing d ws out) ts
settled_stands (Operand h only) ws out ts x = x
settled_stands (Within p) ws out ts m = whole_settled (whole p) p ws out ts refl m
settled_stands (Net a) ws out ts x = net_stands a ws out ts x
settled_stands (Mask a) ws out ts x = x
settled_stands (Operator c h) ws out ts x = x

taken_goes : (s : State) (before : List (List ℕ)) (ts : List Token) (word : List ℕ) → Stands s ts → AreSpelled before ts → Taken s word → CanGoOn (before ++ word ∷ [])
taken_goes s before ts word x y c =
    let n = taken_state (step_of s c.token) c.taken in
    let g = stands_can_go_on n.0 (ts ++ c.token ∷ []) (stands_on s c.token ts n.0 x n.1) in
    record { more = g.more; expression = g.expression; sentence = record { tokens = (ts ++ c.token ∷ []) ++ g.tokens; spelled = spelled_together (before ++ word ∷ []) (words_of g.more) (ts ++ c.token ∷ []) g.tokens (spelled_together before (word ∷ []) ts (c.token ∷ []) y (c.says, tt)) g.spelled; is = g.is } }

offered : (s : State) (e : Expected) (before : List (List ℕ)) (ts : List Token) → Stands s ts → AreSpelled before ts → Offers s e → CanFollow before e
offered s e before ts x y h = λ k d i. taken_goes s before ts _ x y (All-from_recursion (Taken s) (possible e) h k d i)

-- where a text ends
pub end_offers : (s : State) (before : List (List ℕ)) (ts : List Token) → Stands s ts → AreSpelled before ts → CanFollow before (expected_of (settled s))
end_offers s before ts x y = offered _ _ before ts (settled_stands s.doing s.waiting s.steps ts x) y (settled_offers s.doing s.waiting s.steps ts x)

-- what has to follow there
value_follows : (h : Head) → IsTrue (has_to_follow (expected_value h))
value_follows (head.Host n d) = refl
value_follows _ = refl

within_follows : (p : Partial) → IsTrue (has_to_follow (expected_within p))
within_follows (partial.Directed scope.Any d) = refl
within_follows (partial.Directed _ d) = refl
within_follows (partial.Value h) = value_follows h
within_follows _ = refl

operator_follows : (c : Option Joiner) (h : Head) (ws : List Waiting) (out : List Step) (ts : List Token) → Following c h ws out ts → finish_at (Operator c h) ws out ≡ None → IsTrue (is_open ws)
operator_follows c h [] out ts x e = cc
operator_follows c h (waiting.Open g v ∷ ws) out ts x e = refl
operator_follows c h (_ ∷ ws) out ts x e = absurd x.base

complete_follows : (h : Head) (ws : List Waiting) (out : List Step) (ts : List Token) → Stands (complete h ws out) ts → finish_state (complete h ws out) ≡ None → IsTrue (has_to_follow (expected_of (complete h ws out)))
complete_follows h [] out ts x e = cc
complete_follows h (waiting.Open g v ∷ ws) out ts x e = refl
complete_follows h (waiting.Not ∷ ws) out ts x e = complete_follows h ws (out ++ step.Not ∷ []) ts x e
complete_follows h (waiting.Head ∷ ws) out ts x e = complete_follows h ws out ts x e
complete_follows h (waiting.Operator o ∷ ws) out ts x e = operator_follows (Some o) h ws (out ++ step.Operator o ∷ []) ts x e

whole_follows : (a : Option Primitive) (p : Partial) (ws : List Waiting) (out : List Step) (ts : List Token) → whole p ≡ a → Amid p ws out ts → and_then (completed a ws out) finish_state ≡ None → IsTrue (has_to_follow (expected_of (settled_at a p ws out)))
whole_follows (Some a) p ws out ts f m e = complete_follows first_head ws (out ++ step.Test a ∷ []) ts (whole_stands p a ws out ts f m) e
whole_follows None p ws out ts f m e = within_follows p

pub settled_follows : (d : Doing) (ws : List Waiting) (out : List Step) (ts : List Token) → StandsAt d ws out ts → finish_doing d ws out ≡ None → IsTrue (has_to_follow (expected_of (settled_doing d ws out)))
settled_follows (Operand h true) ws out ts x e = value_follows h
settled_follows (Within p) ws out ts x e = whole_follows (whole p) p ws out ts refl x e
settled_follows (Net a) ws out ts x e = complete_follows (head_of_net a) ws (out ++ step.Test (primitive_of_net a) ∷ []) ts (net_stands a ws out ts x) e
settled_follows (Operator c h) ws out ts x e = operator_follows c h ws out ts x e
settled_follows _ ws out ts x e = refl

qualified : (d : Doing) (e : Expected) (ws : List Waiting) (out : List Step) → qualifiers_doing d ≡ Some e → Offers (record { doing = d; waiting = ws; steps = out }) e
qualified (Within p) e ws out f = word_offers p e ws out f
qualified (Net a) e ws out f = subst (Offers _) (some_same _ e f) (net_offers a ws out)
qualified (Mask a) e ws out f = cc
qualified (Operand h only) e ws out f = cc
qualified (Operator c h) e ws out f = cc

-- where a word was refused
pub word_follows : (q : Option Expected) (s : State) (before : List (List ℕ)) (ts : List Token) → qualifiers_doing s.doing ≡ q → Stands s ts → AreSpelled before ts → CanFollow before (unwrap_or q (expected_of (settled s)))
word_follows None s before ts f x y = end_offers s before ts x y
word_follows (Some e) s before ts f x y = offered s e before ts x y (qualified s.doing e s.waiting s.steps f)

-- an operator that cannot stand tells of the other
abbrev pub Other : Option Joiner → State → List (List ℕ) → Joiner → Type 0
Other None s before o = step_of s (token.Operator (other o)) ≡ None
Other (Some c) s before o = CanGoOn (before ++ operator_word (other o) ∷ [])

pub other_word : (o : Joiner) → Spells (operator_word o) (token.Operator o)
unfolding name_of
other_word And = refl
other_word Or = refl

tells_other : (c : Option Joiner) (s : State) (before : List (List ℕ)) (ts : List Token) (o : Joiner) → Stands s ts → AreSpelled before ts → Tells c s (settled s) o → Other c s before o
tells_other None s before ts o x y h = h
tells_other (Some c) s before ts o x y h = taken_goes (settled s) before ts _ (settled_stands s.doing s.waiting s.steps ts x) y (can (token.Operator (other o)) (other_word (other o)) h)

pub other_operator : (s : State) (before : List (List ℕ)) (ts : List Token) (o : Joiner) → Stands s ts → AreSpelled before ts → step_of s (token.Operator o) ≡ None → Other (level_of (settled s).doing) s before o
other_operator s before ts o x y e = tells_other _ s before ts o x y (operator_tells s.doing s.waiting s.steps o e)
