-- What was read so far is the front of an expression, and what is read is that expression.
use Rattle.std.proofs.Common.{◌≡◌, ℕ, Bool, true, false, cond, List, [], ◌∷◌, ◌++◌, Option, Some, None, refl, sym, ap, ◌∙◌, subst, append_assoc, inl, inr}
use Rattle.std.specs.Prelude.{◌⊎◌, nat_le}
use Rattle.std.proofs.lemmas.Bool.{leb-true}
use Rattle.packet_filter.proofs.Complete.{postfix, IsBase, not_some, not_true, some_same}
use Rattle.packet_filter.specs.Meaning.{Expression, one, negation, compound}
use Rattle.packet_filter.specs.Program.{and_then}
use Rattle.packet_filter.specs.Grammar.{IsHead, host, directed, net, port, portrange, proto, ether_host, ether_directed, ether_proto, IsPrimitive, word, vlan, less, greater, ether_broadcast, ether_multicast, multicast, first_fragment, checksum_wrong, comparison, AreBits, single, with, IsConstant, number, list, IsTerm, len, load, masked_, grouped, Kind, operand, chain, Reads, primitive, headed, value, masked_value, not_, parentheses, first, more, IsExpression, direction_words, first_head, fits, provided, value_of, ipv4_of, masked_value_of, alone, layer_of, loads_at}
use Rattle.packet_filter.specs.Private.Machine.{State, begun_at, complete, put, put_net, found, head_of_net, if_fits, net_address_of, net_at, primitive_of_net, step_net, finish, finish_state, finish_at, finish_doing, after, after_doing, step_of, step_state, step_operator, step_progress, completed, close, closes_term, tail_of, on_progress, or_value, chosen, operand_at, waiting_of, head_of, is_only, values_after, within_at, begin, next, whole, given, start, after_network, after_transport, after_protocol, after_vlan, after_word, after_ether, after_any, after_of_network, after_of_transport, after_of_ether, after_scope, after_source, after_direction, after_joined, after_bracket, after_placed, after_and, after_term, after_use, after_opened, after_listed, after_bar}
use Rattle.packet_filter.specs.declared.address.Address.TheVariants.{V4}
use Rattle.packet_filter.specs.declared.expression.Direction.{Direction}
use Rattle.packet_filter.specs.declared.expression.Direction.TheVariants as direction
use Rattle.packet_filter.specs.declared.expression.Layer.{Layer}
use Rattle.packet_filter.specs.declared.expression.Layer.TheVariants as layer
use Rattle.packet_filter.specs.declared.expression.Network.{Network}
use Rattle.packet_filter.specs.declared.expression.Network.TheVariants as network
use Rattle.packet_filter.specs.declared.expression.Operator.{Operator as Joiner}
use Rattle.packet_filter.specs.declared.expression.Operator.TheVariants.{And, Or}
use Rattle.packet_filter.specs.declared.expression.Primitive.{Primitive}
use Rattle.packet_filter.specs.declared.expression.Primitive.TheVariants as says
use Rattle.packet_filter.specs.declared.expression.Quantity.{Quantity}
use Rattle.packet_filter.specs.declared.expression.Quantity.TheVariants.{Load}
use Rattle.packet_filter.specs.declared.expression.Size.{Size}
use Rattle.packet_filter.specs.declared.expression.Transport.{Transport}
use Rattle.packet_filter.specs.declared.filter.Step.{Step}
use Rattle.packet_filter.specs.declared.filter.Step.TheVariants as step
use Rattle.packet_filter.specs.declared.head.Head.{Head}
use Rattle.packet_filter.specs.declared.head.Head.TheVariants as head
use Rattle.packet_filter.specs.declared.machine.Doing.{Doing}
use Rattle.packet_filter.specs.declared.machine.Doing.TheVariants.{Mask, Net, Operand, Within, Operator}
use Rattle.packet_filter.specs.declared.machine.Waiting.{Waiting}
use Rattle.packet_filter.specs.declared.machine.Waiting.TheVariants as waiting
use Rattle.packet_filter.specs.declared.partial.NetAddress.{NetAddress}
use Rattle.packet_filter.specs.declared.partial.Partial.{Partial}
use Rattle.packet_filter.specs.declared.partial.Partial.TheVariants as partial
use Rattle.packet_filter.specs.declared.partial.Progress.{Progress}
use Rattle.packet_filter.specs.declared.partial.Progress.TheVariants.{More, Done, Foreign}
use Rattle.packet_filter.specs.declared.partial.Scope.{Scope}
use Rattle.packet_filter.specs.declared.partial.Scope.TheVariants as scope
use Rattle.packet_filter.specs.declared.partial.Use.{Use}
use Rattle.packet_filter.specs.declared.partial.Use.TheVariants.{Limit, Masking}
use Rattle.packet_filter.specs.declared.token.Token.{Token}
use Rattle.packet_filter.specs.declared.token.Token.TheVariants as token

-- ---- primitives that have begun

abbrev pub scope_words : Scope → List Token
scope_words scope.Any = []
scope_words (scope.Network n) = token.Network n ∷ []
scope_words (scope.Transport t) = token.Transport t ∷ []
scope_words scope.Ether = token.Ether ∷ []

-- the words of a comparison before a constant
abbrev pub Uses : Use → List Token → Type 0
Uses (Masking q) words = (ts : List Token) × IsTerm ts q None × (words ≡ ts ++ token.BitAnd ∷ [])
Uses (Limit q mask r) words = (ts : List Token) × IsTerm ts q mask × (words ≡ ts ++ token.Relation r ∷ [])

-- the words before the place of a load
abbrev pub Loads : Layer → List Token → Type 0
Loads l words = (w : Token) × (layer_of w ≡ Some l) × (words ≡ w ∷ token.OpenBracket ∷ [])

-- the words of a primitive that has begun
abbrev pub Begun : Partial → List Token → Type 0
Begun (partial.Word w) words = (a : Primitive) × (alone w ≡ Some a) × (words ≡ w ∷ [])
Begun partial.Ether words = words ≡ token.Ether ∷ []
Begun (partial.Directed s d) words = words ≡ scope_words s ++ direction_words (Some d)
Begun (partial.Joined s o) words = words ≡ scope_words s ++ token.Source ∷ token.Operator o ∷ []
Begun (partial.Value h) words = IsHead words h
Begun partial.Less words = words ≡ token.Less ∷ []
Begun partial.Greater words = words ≡ token.Greater ∷ []
Begun partial.First words = words ≡ token.First ∷ []
Begun partial.Checksum words = words ≡ token.Checksum ∷ []
Begun (partial.Bracket l) words = Loads l words
Begun (partial.Placed l place size) words = (ts : List Token) × Loads l ts × (at : Token) × (loads_at at ≡ Some (place, size)) × (words ≡ ts ++ at ∷ [])
Begun (partial.Term q mask) words = IsTerm words q mask
Begun (partial.Constant u) words = Uses u words
Begun (partial.Opened u) words = (ts : List Token) × Uses u ts × (words ≡ ts ++ token.Open ∷ [])
Begun (partial.Listed u bits) words = (ts : List Token) × Uses u ts × (bs : List Token) × AreBits bs bits × (words ≡ ts ++ token.Open ∷ bs)
Begun (partial.Bar u bits) words = (ts : List Token) × Uses u ts × (bs : List Token) × AreBits bs bits × (words ≡ ts ++ token.Open ∷ (bs ++ token.BitOr ∷ []))

-- what the words make of a primitive, where a value alone has the head g
abbrev Made : Head → Progress → List Token → Type 0
Made g (More p) words = Begun p words
Made g (Done p h) words = Reads operand false g words (one p) h
Made g Foreign words = Unit {0}

begun : (g : Head) (w : Token) → Made g (begin w) (w ∷ [])
begun g (token.Network n) = (_, refl, refl)
begun g (token.Transport t) = (_, refl, refl)
begun g (token.Protocol v k) = (_, refl, refl)
begun g (token.EtherType k) = (_, refl, refl)
begun g token.Broadcast = (_, refl, refl)
begun g token.Multicast = (_, refl, refl)
begun g token.Vlan = (_, refl, refl)
begun g token.Fragment = (_, refl, refl)
begun g token.Ether = refl
begun g token.Source = refl
begun g token.Destination = refl
begun g token.Host = host None None
begun g token.Net = net None None
begun g token.Port = port None None
begun g token.PortRange = portrange None None
begun g token.Proto = proto None
begun g token.Length = len
begun g token.Less = refl
begun g token.Greater = refl
begun g token.First = refl
begun g token.Checksum = refl
begun g _ = tt

-- a value after its head
value_made : (g h : Head) (words : List Token) (w : Token) (o : Option Primitive) → IsHead words h → value_of w h ≡ o → Made g (found h o) (words ++ w ∷ [])
value_made g h words w (Some p) x e = headed x (value w e)
value_made g h words w None x e = tt

network_made : (g : Head) (n : Network) (w : Token) → Made g (after_network n w) (token.Network n ∷ w ∷ [])
network_made g n token.Source = refl
network_made g n token.Destination = refl
network_made g n token.Host = host (Some n) None
network_made g n token.Net = net (Some n) None
network_made g (network.Ip v) token.Proto = proto (Some v)
network_made g (network.Ip v) token.Multicast = primitive (multicast v)
network_made g n token.OpenBracket = (token.Network n, refl, refl)
network_made g network.Arp _ = tt
network_made g network.Rarp _ = tt
network_made g (network.Ip v) _ = tt

transport_made : (g : Head) (t : Transport) (w : Token) → Made g (after_transport t w) (token.Transport t ∷ w ∷ [])
transport_made g t token.Source = refl
transport_made g t token.Destination = refl
transport_made g t token.Port = port (Some t) None
transport_made g t token.PortRange = portrange (Some t) None
transport_made g t token.OpenBracket = (token.Transport t, refl, refl)
transport_made g t _ = tt

limited : (g : Head) (b : Bool) (words : List Token) (q : Primitive) → (b ≡ true → IsPrimitive words q) → Made g (cond b (Done q first_head) Foreign) words
limited g true words q h = primitive (h refl)
limited g false words q h = tt

vlan_made : (g : Head) (w : Token) → Made g (after_vlan w) (token.Vlan ∷ w ∷ [])
vlan_made g (token.Number k) = limited g (nat_le k 4095) _ _ (λ h. vlan k (leb-true k 4095 h))
vlan_made g _ = tt

protocol_made : (g : Head) (f : Token) (l : Layer) (w : Token) → layer_of f ≡ Some l → Made g (after_protocol l w) (f ∷ w ∷ [])
protocol_made g f l token.OpenBracket e = (f, e, refl)
protocol_made g f l _ e = tt

word_made : (g : Head) (f w : Token) → Made g (after_word f w) (f ∷ w ∷ [])
word_made g (token.Network n) w = network_made g n w
word_made g (token.Transport t) w = transport_made g t w
word_made g (token.Protocol v k) w = protocol_made g (token.Protocol v k) (layer.Payload v k) w refl
word_made g token.Vlan w = vlan_made g w
word_made g _ w = tt

ether_made : (g : Head) (w : Token) → Made g (after_ether w) (token.Ether ∷ w ∷ [])
ether_made g token.Source = refl
ether_made g token.Destination = refl
ether_made g token.Host = ether_host None
ether_made g token.Proto = ether_proto
ether_made g token.Broadcast = primitive ether_broadcast
ether_made g token.Multicast = primitive ether_multicast
ether_made g token.OpenBracket = (token.Ether, refl, refl)
ether_made g _ = tt

any_made : (g : Head) (d : Direction) (w : Token) → Made g (after_any d w) (direction_words (Some d) ++ w ∷ [])
any_made g d token.Host = host None (Some d)
any_made g d token.Net = net None (Some d)
any_made g d token.Port = port None (Some d)
any_made g d token.PortRange = portrange None (Some d)
any_made g d (token.Address a) = value_made g (head.Host None (Some d)) (direction_words (Some d)) (token.Address a) _ (directed None d) refl
any_made g d _ = tt

of_network_made : (g : Head) (n : Network) (d : Direction) (w : Token) → Made g (after_of_network n d w) (token.Network n ∷ (direction_words (Some d) ++ w ∷ []))
of_network_made g n d token.Host = host (Some n) (Some d)
of_network_made g n d token.Net = net (Some n) (Some d)
of_network_made g n d (token.Address a) = value_made g (head.Host (Some n) (Some d)) (token.Network n ∷ direction_words (Some d)) (token.Address a) _ (directed (Some n) d) refl
of_network_made g n d _ = tt

of_transport_made : (g : Head) (t : Transport) (d : Direction) (w : Token) → Made g (after_of_transport t d w) (token.Transport t ∷ (direction_words (Some d) ++ w ∷ []))
of_transport_made g t d token.Port = port (Some t) (Some d)
of_transport_made g t d token.PortRange = portrange (Some t) (Some d)
of_transport_made g t d _ = tt

of_ether_made : (g : Head) (d : Direction) (w : Token) → Made g (after_of_ether d w) (token.Ether ∷ (direction_words (Some d) ++ w ∷ []))
of_ether_made g d token.Host = ether_host (Some d)
of_ether_made g d (token.Hardware a) = value_made g (head.Ether (Some d)) (token.Ether ∷ direction_words (Some d)) (token.Hardware a) _ (ether_directed d) refl
of_ether_made g d _ = tt

scope_made : (g : Head) (s : Scope) (d : Direction) (w : Token) → Made g (after_scope s d w) (scope_words s ++ (direction_words (Some d) ++ w ∷ []))
scope_made g scope.Any d w = any_made g d w
scope_made g (scope.Network n) d w = of_network_made g n d w
scope_made g (scope.Transport t) d w = of_transport_made g t d w
scope_made g scope.Ether d w = of_ether_made g d w

source_made : (g : Head) (s : Scope) (d : Direction) (o : Joiner) → Made g (after_source s d o) (scope_words s ++ (direction_words (Some d) ++ token.Operator o ∷ []))
source_made g s direction.Source o = refl
source_made g s direction.Destination o = tt
source_made g s direction.Either o = tt
source_made g s direction.Both o = tt

direction_made : (g : Head) (s : Scope) (d : Direction) (w : Token) → Made g (after_direction s d w) (scope_words s ++ (direction_words (Some d) ++ w ∷ []))
direction_made g s d (token.Operator o) = source_made g s d o
direction_made g s d w = scope_made g s d w

joined_made : (g : Head) (s : Scope) (o : Joiner) (w : Token) → Made g (after_joined s o w) (scope_words s ++ (token.Source ∷ token.Operator o ∷ w ∷ []))
joined_made g s Or token.Destination = refl
joined_made g s And token.Destination = refl
joined_made g s o _ = tt

given_made : (g : Head) (u : Use) (ts bs : List Token) (k : ℕ) → Uses u ts → IsConstant bs k → Made g (given u k) (ts ++ bs)
given_made g (Masking q) ts bs k x c =
    subst (λ l. IsTerm l q (Some k)) (sym (ap (λ l. l ++ bs) x.2 ∙ append_assoc x.0 (token.BitAnd ∷ []) bs)) (masked_ x.1 c)
given_made g (Limit q mask r) ts bs k x c =
    subst (λ l. Reads operand false g l (one (says.Compare q mask r k)) first_head) (sym (ap (λ l. l ++ bs) x.2 ∙ append_assoc x.0 (token.Relation r ∷ []) bs)) (primitive (comparison x.1 r c))

bracket_made : (g : Head) (l : Layer) (ts : List Token) (w : Token) → Loads l ts → Made g (after_bracket l w) (ts ++ w ∷ [])
bracket_made g l ts (token.Number k) x = (ts, x, token.Number k, refl, refl)
bracket_made g l ts (token.Place k s) x = (ts, x, token.Place k s, refl, refl)
bracket_made g l ts _ x = tt

placed_made : (g : Head) (l : Layer) (place : ℕ) (size : Size) (words : List Token) (w : Token) → Begun (partial.Placed l place size) words → Made g (after_placed l place size w) (words ++ w ∷ [])
placed_made g l place size words token.CloseBracket x =
    subst (λ z. IsTerm z (Load l place size) None) (sym (ap (λ z. z ++ token.CloseBracket ∷ []) (x.4 ∙ ap (λ z. z ++ x.2 ∷ []) x.1.2))) (load x.1.1 x.3)
placed_made g l place size words _ x = tt

and_made : (g : Head) (q : Quantity) (mask : Option ℕ) (words : List Token) → IsTerm words q mask → Made g (after_and q mask) (words ++ token.BitAnd ∷ [])
and_made g q None words x = (words, x, refl)
and_made g q (Some m) words x = tt

term_made : (g : Head) (q : Quantity) (mask : Option ℕ) (words : List Token) (w : Token) → IsTerm words q mask → Made g (after_term q mask w) (words ++ w ∷ [])
term_made g q mask words token.BitAnd x = and_made g q mask words x
term_made g q mask words (token.Relation r) x = (words, x, refl)
term_made g q mask words _ x = tt

use_made : (g : Head) (u : Use) (words : List Token) (w : Token) → Uses u words → Made g (after_use u w) (words ++ w ∷ [])
use_made g u words (token.Number k) x = given_made g u words (token.Number k ∷ []) k x (number k)
use_made g u words token.Open x = (words, x, refl)
use_made g u words _ x = tt

opened_made : (g : Head) (u : Use) (words : List Token) (w : Token) → Begun (partial.Opened u) words → Made g (after_opened u w) (words ++ w ∷ [])
opened_made g u words (token.Number k) x = (x.0, x.1, token.Number k ∷ [], single k, ap (λ z. z ++ token.Number k ∷ []) x.2 ∙ append_assoc x.0 (token.Open ∷ []) (token.Number k ∷ []))
opened_made g u words _ x = tt

listed_made : (g : Head) (u : Use) (bits : ℕ) (words : List Token) (w : Token) → Begun (partial.Listed u bits) words → Made g (after_listed u bits w) (words ++ w ∷ [])
listed_made g u bits words token.BitOr x = (x.0, x.1, x.2, x.3, ap (λ z. z ++ token.BitOr ∷ []) x.4 ∙ append_assoc x.0 (token.Open ∷ x.2) (token.BitOr ∷ []))
listed_made g u bits words token.Close x =
    subst (Made g (given u bits)) (sym (ap (λ z. z ++ token.Close ∷ []) x.4 ∙ append_assoc x.0 (token.Open ∷ x.2) (token.Close ∷ []))) (given_made g u x.0 (token.Open ∷ (x.2 ++ token.Close ∷ [])) bits x.1 (list x.3))
listed_made g u bits words _ x = tt

bar_made : (g : Head) (u : Use) (bits : ℕ) (words : List Token) (w : Token) → Begun (partial.Bar u bits) words → Made g (after_bar u bits w) (words ++ w ∷ [])
bar_made g u bits words (token.Number k) x = (x.0, x.1, x.2 ++ token.BitOr ∷ token.Number k ∷ [], with x.3 k, ap (λ z. z ++ token.Number k ∷ []) x.4 ∙ append_assoc x.0 (token.Open ∷ (x.2 ++ token.BitOr ∷ [])) (token.Number k ∷ []) ∙ ap (λ z. x.0 ++ token.Open ∷ z) (append_assoc x.2 (token.BitOr ∷ []) (token.Number k ∷ [])))
bar_made g u bits words _ x = tt

less_made : (g : Head) (w : Token) → Made g (next partial.Less w) (token.Less ∷ w ∷ [])
less_made g (token.Number k) = primitive (less k)
less_made g _ = tt

greater_made : (g : Head) (w : Token) → Made g (next partial.Greater w) (token.Greater ∷ w ∷ [])
greater_made g (token.Number k) = primitive (greater k)
greater_made g _ = tt

first_made : (g : Head) (w : Token) → Made g (next partial.First w) (token.First ∷ w ∷ [])
first_made g token.Fragment = primitive first_fragment
first_made g _ = tt

checksum_made : (g : Head) (w : Token) → Made g (next partial.Checksum w) (token.Checksum ∷ w ∷ [])
checksum_made g token.Wrong = primitive checksum_wrong
checksum_made g _ = tt

-- the words are those before, and one more
after_words : (g : Head) (x : Progress) (words before : List Token) (w : Token) → words ≡ before → Made g x (before ++ w ∷ []) → Made g x (words ++ w ∷ [])
after_words g x words before w e m = subst (λ l. Made g x (l ++ w ∷ [])) (sym e) m

continued : (g : Head) (p : Partial) (words : List Token) (w : Token) → Begun p words → Made g (next p w) (words ++ w ∷ [])
continued g (partial.Word f) words w x = after_words g _ words _ w x.2 (word_made g f w)
continued g partial.Ether words w x = after_words g _ words _ w x (ether_made g w)
continued g (partial.Directed s d) words w x = after_words g _ words _ w x (subst (Made g (after_direction s d w)) (sym (append_assoc (scope_words s) (direction_words (Some d)) (w ∷ []))) (direction_made g s d w))
continued g (partial.Joined s o) words w x = after_words g _ words _ w x (subst (Made g (after_joined s o w)) (sym (append_assoc (scope_words s) (token.Source ∷ token.Operator o ∷ []) (w ∷ []))) (joined_made g s o w))
continued g (partial.Value h) words w x = value_made g h words w (value_of w h) x refl
continued g partial.Less words w x = after_words g _ words _ w x (less_made g w)
continued g partial.Greater words w x = after_words g _ words _ w x (greater_made g w)
continued g partial.First words w x = after_words g _ words _ w x (first_made g w)
continued g partial.Checksum words w x = after_words g _ words _ w x (checksum_made g w)
continued g (partial.Bracket l) words w x = bracket_made g l words w x
continued g (partial.Placed l place size) words w x = placed_made g l place size words w x
continued g (partial.Term q mask) words w x = term_made g q mask words w x
continued g (partial.Constant u) words w x = use_made g u words w x
continued g (partial.Opened u) words w x = opened_made g u words w x
continued g (partial.Listed u bits) words w x = listed_made g u bits words w x
continued g (partial.Bar u bits) words w x = bar_made g u bits words w x

-- ---- states

-- the left side of an operator
abbrev pub LeftOf : Kind → Bool → Head → List Token → Expression → Head → Type 0
LeftOf k only g words e h = Reads operand only g words e h ⊎ Reads k only g words e h

-- the words before an operand that is to come, which has the head h if it is a value alone, as it
-- has to be if `only` is true; with what waits for it, and the steps so far
abbrev pub Opens : List Waiting → Head → Bool → List Token → List Step → Type 0
Opens [] h only ts out = (ts ≡ []) × (out ≡ []) × (h ≡ first_head) × (only ≡ false)
Opens (waiting.Not ∷ ws) h only ts out = (us : List Token) × (ts ≡ us ++ token.Not ∷ []) × Opens ws h only us out
Opens (waiting.Open g values ∷ ws) h only ts out = (us : List Token) × (ts ≡ us ++ token.Open ∷ []) × Opens ws g values us out × (h ≡ g) × (only ≡ values)
Opens (waiting.Head ∷ ws) h only ts out = (us : List Token) × (vs : List Token) × (ts ≡ us ++ vs) × IsHead vs h × (only ≡ true) × (g : Head) × Opens ws g false us out
Opens (waiting.Operator o ∷ ws) h only ts out = (us : List Token) × (x : List Step) × (l : List Token) × (a : Expression) × (ts ≡ us ++ (l ++ token.Operator o ∷ [])) × (out ≡ x ++ postfix a) × IsBase ws × (g : Head) × LeftOf (chain o) only g l a h × Opens ws g only us x

abbrev pub kind_of : Option Joiner → Kind
kind_of None = operand
kind_of (Some o) = chain o

-- an expression stands after the words that wait
pub record Following (c : Option Joiner) (h : Head) (ws : List Waiting) (out : List Step) (ts : List Token) : Type 0 where
  pub before : List Token
  pub steps : List Step
  pub words : List Token
  pub expression : Expression
  pub head : Head
  pub only : Bool
  pub text : ts ≡ before ++ words
  pub program : out ≡ steps ++ postfix expression
  pub base : IsBase ws
  pub opens : Opens ws head only before steps
  pub reads : Reads (kind_of c) only head words expression h

pub record Amid (p : Partial) (ws : List Waiting) (out : List Step) (ts : List Token) : Type 0 where
  pub before : List Token
  pub words : List Token
  pub head : Head
  pub text : ts ≡ before ++ words
  pub begun : Begun p words
  pub opens : Opens ws head false before out

-- the word is the address of a network after this head
pub record IsNet (w : Token) (o : Option Head) (a : NetAddress) : Type 0 where
  pub head : o ≡ Some (head_of_net a)
  pub address : ipv4_of w ≡ Some a.address
  pub value : value_of w (head_of_net a) ≡ Some (primitive_of_net a)
  pub fits : fits a.network (V4 a.address) ≡ true

net_fits : (b : Bool) (x a : NetAddress) → if_fits b x ≡ Some a → (b ≡ true) × (x ≡ a)
net_fits true x a e = (refl, some_same x a e)
net_fits false x a e = cc

pub net_word : (w : Token) (o : Option Head) (a : NetAddress) → net_address_of w o ≡ Some a → IsNet w o a
net_word (token.Address (V4 k)) (Some (head.Net n d)) a e =
    let x = net_fits (fits n (V4 k)) _ a e in
    subst (IsNet (token.Address (V4 k)) (Some (head.Net n d))) x.1 (record { head = refl; address = refl; value = ap (λ b. provided b (says.Net n d (V4 k) 32)) x.0; fits = x.0 })
net_word (token.Front k bits) (Some (head.Net n d)) a e =
    let x = net_fits (fits n (V4 k)) _ a e in
    subst (IsNet (token.Front k bits) (Some (head.Net n d))) x.1 (record { head = refl; address = refl; value = ap (λ b. provided b (says.Net n d (V4 k) bits)) x.0; fits = x.0 })
net_word _ _ a e = absurd (not_some a e)

-- such a word stands after these
pub record AtNet (a : NetAddress) (ws : List Waiting) (out : List Step) (us : List Token) : Type 0 where
  pub word : Token
  pub only : Bool
  pub is : IsNet word (Some (head_of_net a)) a
  pub opens : Opens ws (head_of_net a) only us out

abbrev pub StandsAt : Doing → List Waiting → List Step → List Token → Type 0
StandsAt (Operand h only) ws out ts = Opens ws h only ts out
StandsAt (Within p) ws out ts = Amid p ws out ts
StandsAt (Net a) ws out ts = (us : List Token) × (x : AtNet a ws out us) × (ts ≡ us ++ x.word ∷ [])
StandsAt (Mask a) ws out ts = (us : List Token) × (x : AtNet a ws out us) × (ts ≡ us ++ x.word ∷ token.Mask ∷ [])
StandsAt (Operator c h) ws out ts = Following c h ws out ts

-- the state is that after these words
abbrev pub Stands : State → List Token → Type 0
Stands s ts = StandsAt s.doing s.waiting s.steps ts

-- an operand is complete
completes : (ws : List Waiting) (ts : List Token) (out : List Step) (us : List Token) (a : Expression) (only : Bool) (g h : Head) → Opens ws g only ts out → Reads operand only g us a h → Stands (complete h ws (out ++ postfix a)) (ts ++ us)
completes [] ts out us a only g h x r = record { before = ts; steps = out; words = us; expression = a; head = g; only = only; text = refl; program = refl; base = tt; opens = x; reads = r }
completes (waiting.Open i v ∷ ws) ts out us a only g h x r = record { before = ts; steps = out; words = us; expression = a; head = g; only = only; text = refl; program = refl; base = tt; opens = x; reads = r }
completes (waiting.Not ∷ ws) ts out us a only g h x r =
    let done : Stands (complete h ws (out ++ (postfix a ++ step.Not ∷ []))) (x.0 ++ (token.Not ∷ us)) = completes ws x.0 out (token.Not ∷ us) (negation a) only g h x.2 (not_ r) in
    let place : x.0 ++ (token.Not ∷ us) ≡ ts ++ us = sym (ap (λ l. l ++ us) x.1 ∙ append_assoc x.0 (token.Not ∷ []) us) in
    subst (λ l. Stands (complete h ws ((out ++ postfix a) ++ step.Not ∷ [])) l) place
    (subst (λ o. Stands (complete h ws o) (x.0 ++ (token.Not ∷ us))) (sym (append_assoc out (postfix a) (step.Not ∷ []))) done)
completes (waiting.Head ∷ ws) ts out us a only g h x r =
    let inner : Reads operand true g us a h = subst (λ b. Reads operand b g us a h) x.4 r in
    let done : Stands (complete h ws (out ++ postfix a)) (x.0 ++ (x.1 ++ us)) = completes ws x.0 out (x.1 ++ us) a false x.5 h x.6 (headed x.3 inner) in
    subst (λ l. Stands (complete h ws (out ++ postfix a)) l) (sym (ap (λ l. l ++ us) x.2 ∙ append_assoc x.0 x.1 us)) done
completes (waiting.Operator o ∷ ws) ts out us a only g h x r = record {
  before = x.0;
  steps = x.1;
  words = x.2 ++ token.Operator o ∷ us;
  expression = compound o x.3 a;
  head = x.7;
  only = only;
  text = ap (λ l. l ++ us) x.4 ∙ append_assoc x.0 (x.2 ++ token.Operator o ∷ []) us ∙ ap (λ l. x.0 ++ l) (append_assoc x.2 (token.Operator o ∷ []) us);
  program = append_assoc out (postfix a) (step.Operator o ∷ []) ∙ ap (λ y. y ++ (postfix a ++ step.Operator o ∷ [])) x.5 ∙ append_assoc x.1 (postfix x.3) (postfix a ++ step.Operator o ∷ []);
  base = x.6;
  opens = x.9;
  reads = elim x.8 as (λ _. Reads (chain o) only x.7 (x.2 ++ token.Operator o ∷ us) (compound o x.3 a) h) [ inl y ↦ first y r | inr y ↦ more y r ];
}

progressed : (y : Progress) (ws : List Waiting) (out : List Step) (ts us : List Token) (g : Head) (s : State) → Opens ws g false ts out → Made g y us → on_progress y ws out ≡ Some s → Stands s (ts ++ us)
progressed (More p) ws out ts us g s x m e =
    subst (λ z. Stands z (ts ++ us)) (some_same _ s e) (record { before = ts; words = us; head = g; text = refl; begun = m; opens = x })
progressed (Done p h) ws out ts us g s x m e =
    subst (λ z. Stands z (ts ++ us)) (some_same _ s e) (completes ws ts out us (one p) false g h x m)
progressed Foreign ws out ts us g s x m e = cc

-- a value alone
valued_stands : (o : Option Primitive) (w : Token) (only : Bool) (g : Head) (ws : List Waiting) (out : List Step) (ts : List Token) (s : State) → value_of w g ≡ o → Opens ws g only ts out → on_progress (found g o) ws out ≡ Some s → Stands s (ts ++ w ∷ [])
valued_stands (Some p) w only g ws out ts s f x e = subst (λ z. Stands z (ts ++ w ∷ [])) (some_same _ s e) (completes ws ts out (w ∷ []) (one p) only g g x (value w f))
valued_stands None w only g ws out ts s f x e = cc

or_value_stands : (y : Progress) (w : Token) (g : Head) (ws : List Waiting) (out : List Step) (ts : List Token) (s : State) → Made g y (w ∷ []) → Opens ws g false ts out → on_progress (or_value g w y) ws out ≡ Some s → Stands s (ts ++ w ∷ [])
or_value_stands (More p) w g ws out ts s m x e = progressed (More p) ws out ts (w ∷ []) g s x m e
or_value_stands (Done p h) w g ws out ts s m x e = progressed (Done p h) ws out ts (w ∷ []) g s x m e
or_value_stands Foreign w g ws out ts s m x e = valued_stands (value_of w g) w false g ws out ts s refl x e

chosen_stands : (only : Bool) (w : Token) (g : Head) (ws : List Waiting) (out : List Step) (ts : List Token) (s : State) → Opens ws g only ts out → on_progress (chosen only g w) ws out ≡ Some s → Stands s (ts ++ w ∷ [])
chosen_stands true w g ws out ts s x e = valued_stands (value_of w g) w true g ws out ts s refl x e
chosen_stands false w g ws out ts s x e = or_value_stands (begin w) w g ws out ts s (begun g w) x e

-- the address of a network, or any other word
net_begun : (w : Token) (g : Head) (a : NetAddress) (only : Bool) (ws : List Waiting) (out : List Step) (ts : List Token) → IsNet w (Some g) a → Opens ws g only ts out → StandsAt (Net a) ws out (ts ++ w ∷ [])
net_begun w g a only ws out ts i x =
    let same = some_same g (head_of_net a) i.head in
    (ts, record { word = w; only = only; is = subst (λ h. IsNet w (Some h) a) same i; opens = subst (λ h. Opens ws h only ts out) same x }, refl)

begun_steps : (o : Option NetAddress) (w : Token) (only : Bool) (g : Head) (ws : List Waiting) (out : List Step) (ts : List Token) (s : State) → net_address_of w (Some g) ≡ o → Opens ws g only ts out → begun_at o (chosen only g w) ws out ≡ Some s → Stands s (ts ++ w ∷ [])
begun_steps (Some a) w only g ws out ts s f x e = subst (λ z. Stands z (ts ++ w ∷ [])) (some_same _ s e) (net_begun w g a only ws out ts (net_word w (Some g) a f) x)
begun_steps None w only g ws out ts s f x e = chosen_stands only w g ws out ts s x e

waits_on : (w : Token) (y : Waiting) (only : Bool) (g : Head) (ws : List Waiting) (out : List Step) (ts : List Token) → waiting_of g only w ≡ Some y → Opens ws g only ts out → Opens (y ∷ ws) g only (ts ++ w ∷ []) out
waits_on token.Not y only g ws out ts e x = subst (λ z. Opens (z ∷ ws) g only (ts ++ token.Not ∷ []) out) (some_same waiting.Not y e) (ts, refl, x)
waits_on token.Open y only g ws out ts e x = subst (λ z. Opens (z ∷ ws) g only (ts ++ token.Open ∷ []) out) (some_same (waiting.Open g only) y e) (ts, refl, x, refl, refl)
waits_on _ y only g ws out ts e x = absurd (not_some y e)

operand_steps : (o : Option Waiting) (w : Token) (only : Bool) (g : Head) (ws : List Waiting) (out : List Step) (ts : List Token) (s : State) → waiting_of g only w ≡ o → Opens ws g only ts out → operand_at o g only w ws out ≡ Some s → Stands s (ts ++ w ∷ [])
operand_steps (Some y) w only g ws out ts s f x e = subst (λ z. Stands z (ts ++ w ∷ [])) (some_same _ s e) (waits_on w y only g ws out ts f x)
operand_steps None w only g ws out ts s f x e = begun_steps (net_address_of w (Some g)) w only g ws out ts s refl x e

-- values alone are what can follow, if they stand in a group of such
only_within : (ws : List Waiting) (h : Head) (only : Bool) (ts : List Token) (out : List Step) → IsBase ws → Opens ws h only ts out → only ≡ is_only ws
only_within [] h only ts out b x = x.3
only_within (waiting.Open g v ∷ ws) h only ts out b x = x.4
only_within (waiting.Not ∷ ws) h only ts out b x = absurd b
only_within (waiting.Head ∷ ws) h only ts out b x = absurd b
only_within (waiting.Operator o ∷ ws) h only ts out b x = absurd b

joins_on : (o : Joiner) (h : Head) (ws : List Waiting) (out : List Step) (ts : List Token) (c : Option Joiner) (b : Following c h ws out ts) → LeftOf (chain o) b.only b.head b.words b.expression h → Opens (waiting.Operator o ∷ ws) h (is_only ws) (ts ++ token.Operator o ∷ []) out
joins_on o h ws out ts c b l =
    subst (λ v. Opens (waiting.Operator o ∷ ws) h v (ts ++ token.Operator o ∷ []) out) (only_within ws b.head b.only b.before b.steps b.base b.opens)
    (b.before, b.steps, b.words, b.expression, ap (λ x. x ++ token.Operator o ∷ []) b.text ∙ append_assoc b.before b.words (token.Operator o ∷ []), b.program, b.base, b.head, l, b.opens)

close_steps : (c : Option Joiner) (h : Head) (ws : List Waiting) (out : List Step) (ts : List Token) (s : State) → Following c h ws out ts → close ws out ≡ Some s → Stands s (ts ++ token.Close ∷ [])
close_steps c h [] out ts s b e = cc
close_steps c h (waiting.Not ∷ ws) out ts s b e = absurd b.base
close_steps c h (waiting.Head ∷ ws) out ts s b e = absurd b.base
close_steps c h (waiting.Operator o ∷ ws) out ts s b e = absurd b.base
close_steps c h (waiting.Open g v ∷ ws) out ts s b e =
    let us = b.opens.0 in
    let inner : Reads (kind_of c) v g b.words b.expression h = subst (λ i. Reads (kind_of c) v i b.words b.expression h) b.opens.3 (subst (λ z. Reads (kind_of c) z b.head b.words b.expression h) b.opens.4 b.reads) in
    let done : Stands (complete g ws (b.steps ++ postfix b.expression)) (us ++ (token.Open ∷ (b.words ++ token.Close ∷ []))) = completes ws us b.steps (token.Open ∷ (b.words ++ token.Close ∷ [])) b.expression v g g b.opens.2 (parentheses inner) in
    let place : us ++ (token.Open ∷ (b.words ++ token.Close ∷ [])) ≡ ts ++ token.Close ∷ [] =
    sym (ap (λ l. l ++ token.Close ∷ []) (b.text ∙ ap (λ l. l ++ b.words) b.opens.1) ∙ ap (λ l. l ++ token.Close ∷ []) (append_assoc us (token.Open ∷ []) b.words) ∙ append_assoc us (token.Open ∷ b.words) (token.Close ∷ [])) in
    subst (λ x. Stands x (ts ++ token.Close ∷ [])) (some_same _ s e)
    (subst (λ o. Stands (complete g ws o) (ts ++ token.Close ∷ [])) (sym b.program)
    (subst (λ l. Stands (complete g ws (b.steps ++ postfix b.expression)) l) place done))

operator_steps : (c : Option Joiner) (h : Head) (w : Token) (ws : List Waiting) (out : List Step) (ts : List Token) (s : State) → Following c h ws out ts → step_operator c h w ws out ≡ Some s → Stands s (ts ++ w ∷ [])
operator_steps None h (token.Operator o) ws out ts s b e = subst (λ x. Stands x (ts ++ token.Operator o ∷ [])) (some_same _ s e) (joins_on o h ws out ts None b (inl b.reads))
operator_steps (Some And) h (token.Operator And) ws out ts s b e = subst (λ x. Stands x (ts ++ token.Operator And ∷ [])) (some_same _ s e) (joins_on And h ws out ts (Some And) b (inr b.reads))
operator_steps (Some Or) h (token.Operator Or) ws out ts s b e = subst (λ x. Stands x (ts ++ token.Operator Or ∷ [])) (some_same _ s e) (joins_on Or h ws out ts (Some Or) b (inr b.reads))
operator_steps c h token.Close ws out ts s b e = close_steps c h ws out ts s b e
operator_steps _ _ _ ws out ts s b e = absurd (not_some s e)

after_steps : (d : Doing) (w : Token) (ws : List Waiting) (out : List Step) (ts : List Token) (s : State) → StandsAt d ws out ts → after_doing d w ws out ≡ Some s → Stands s (ts ++ w ∷ [])
after_steps (Operand h only) w ws out ts s x e = cc
after_steps (Within p) w ws out ts s x e = cc
after_steps (Net a) w ws out ts s x e = cc
after_steps (Mask a) w ws out ts s x e = cc
after_steps (Operator c h) w ws out ts s x e = operator_steps c h w ws out ts s x e

amid_more : (p : Partial) (us : List Token) (ws : List Waiting) (out : List Step) (ts : List Token) (m : Amid p ws out ts) → m.before ++ (m.words ++ us) ≡ ts ++ us
amid_more p us ws out ts m = sym (ap (λ l. l ++ us) m.text ∙ append_assoc m.before m.words us)

-- a primitive that can go on is complete
pub whole_stands : (p : Partial) (a : Primitive) (ws : List Waiting) (out : List Step) (ts : List Token) → whole p ≡ Some a → Amid p ws out ts → Stands (put a first_head ws out) ts
whole_stands (partial.Word w) a ws out ts e m =
    subst (Stands (put a first_head ws out)) (sym m.text)
    (completes ws m.before out m.words (one a) false m.head first_head m.opens (subst (λ l. Reads operand false m.head l (one a) first_head) (sym m.begun.2) (primitive (word e))))
whole_stands _ a ws out ts e m = absurd (not_some a e)

whole_steps : (o : Option Primitive) (p : Partial) (w : Token) (ws : List Waiting) (out : List Step) (ts : List Token) (s : State) → whole p ≡ o → Amid p ws out ts → and_then (completed o ws out) (after w) ≡ Some s → Stands s (ts ++ w ∷ [])
whole_steps None p w ws out ts s h m e = cc
whole_steps (Some a) p w ws out ts s h m e =
    let x = put a first_head ws out in
    after_steps x.doing w x.waiting x.steps ts s (whole_stands p a ws out ts h m) e

within_progress : (y : Progress) (p : Partial) (w : Token) (ws : List Waiting) (out : List Step) (ts : List Token) (s : State) (m : Amid p ws out ts) → Made m.head y (m.words ++ w ∷ []) → step_progress y (whole p) w ws out ≡ Some s → Stands s (ts ++ w ∷ [])
within_progress (More q) p w ws out ts s m made e =
    subst (λ x. Stands x (ts ++ w ∷ [])) (some_same _ s e) (record { before = m.before; words = m.words ++ w ∷ []; head = m.head; text = sym (amid_more p (w ∷ []) ws out ts m); begun = made; opens = m.opens })
within_progress (Done q h) p w ws out ts s m made e =
    subst (λ x. Stands x (ts ++ w ∷ [])) (some_same _ s e)
    (subst (λ l. Stands (put q h ws out) l) (amid_more p (w ∷ []) ws out ts m) (completes ws m.before out (m.words ++ w ∷ []) (one q) false m.head h m.opens made))
within_progress Foreign p w ws out ts s m made e = whole_steps (whole p) p w ws out ts s refl m e

-- a parenthesis round a term
group_steps : (p : Partial) (w : Token) (ws : List Waiting) (out : List Step) (ts : List Token) → closes_term p w ws ≡ true → Amid p ws out ts → Amid p (tail_of ws) out (ts ++ w ∷ [])
group_steps (partial.Term q mask) token.Close (waiting.Open g v ∷ ws) out ts e m =
    let us = m.opens.0 in
    record {
      before = us;
      words = token.Open ∷ (m.words ++ token.Close ∷ []);
      head = g;
      text = ap (λ l. l ++ token.Close ∷ []) (m.text ∙ ap (λ l. l ++ m.words) m.opens.1 ∙ append_assoc us (token.Open ∷ []) m.words) ∙ append_assoc us (token.Open ∷ m.words) (token.Close ∷ []);
      begun = grouped m.begun;
      opens = subst (λ b. Opens ws g b us out) (sym m.opens.4) m.opens.2;
    }
group_steps _ _ _ out ts e m = absurd (not_true e)

-- the words of a head that has begun
head_begun : (p : Partial) (h : Head) (words : List Token) → head_of p ≡ Some h → Begun p words → IsHead words h
head_begun (partial.Value i) h words e x = subst (IsHead words) (some_same i h e) x
head_begun (partial.Directed scope.Any d) h words e x = subst (IsHead words) (some_same _ h e) (subst (λ l. IsHead l (head.Host None (Some d))) (sym x) (directed None d))
head_begun (partial.Directed (scope.Network n) d) h words e x = subst (IsHead words) (some_same _ h e) (subst (λ l. IsHead l (head.Host (Some n) (Some d))) (sym x) (directed (Some n) d))
head_begun (partial.Directed (scope.Transport t) d) h words e x = cc
head_begun (partial.Directed scope.Ether d) h words e x = subst (IsHead words) (some_same _ h e) (subst (λ l. IsHead l (head.Ether (Some d))) (sym x) (ether_directed d))
head_begun _ h words e x = absurd (not_some h e)

-- `not` or a parenthesis after it
values_open : (h : Head) (w : Token) (x : Head × Waiting) (p : Partial) (ws : List Waiting) (out : List Step) (ts : List Token) → head_of p ≡ Some h → values_after w (Some h) ≡ Some x → Amid p ws out ts → Opens (x.1 ∷ waiting.Head ∷ ws) x.0 true (ts ++ w ∷ []) out
values_open h token.Not x p ws out ts f e m = subst (λ (z : Head × Waiting). Opens (z.1 ∷ waiting.Head ∷ ws) z.0 true (ts ++ token.Not ∷ []) out) (some_same (h, waiting.Not) x e) (ts, refl, (m.before, m.words, m.text, head_begun p h m.words f m.begun, refl, m.head, m.opens))
values_open h token.Open x p ws out ts f e m = subst (λ (z : Head × Waiting). Opens (z.1 ∷ waiting.Head ∷ ws) z.0 true (ts ++ token.Open ∷ []) out) (some_same (h, waiting.Open h true) x e) (ts, refl, (m.before, m.words, m.text, head_begun p h m.words f m.begun, refl, m.head, m.opens), refl, refl)
values_open h _ x p ws out ts f e m = absurd (not_some x e)

no_values : (w : Token) (x : Head × Waiting) → values_after w None ≡ Some x → ⊥
no_values token.Not x e = cc
no_values token.Open x e = cc
no_values _ x e = not_some x e

values_opened : (o : Option Head) (w : Token) (x : Head × Waiting) (p : Partial) (ws : List Waiting) (out : List Step) (ts : List Token) → head_of p ≡ o → values_after w o ≡ Some x → Amid p ws out ts → Opens (x.1 ∷ waiting.Head ∷ ws) x.0 true (ts ++ w ∷ []) out
values_opened None w x p ws out ts f e m = absurd (no_values w x e)
values_opened (Some h) w x p ws out ts f e m = values_open h w x p ws out ts f e m

-- so does the address of a network
net_steps : (o : Option NetAddress) (p : Partial) (w : Token) (ws : List Waiting) (out : List Step) (ts : List Token) (s : State) → net_address_of w (head_of p) ≡ o → Amid p ws out ts → net_at o p w ws out ≡ Some s → Stands s (ts ++ w ∷ [])
net_steps (Some a) p w ws out ts s f m e =
    let i = net_word w (head_of p) a f in
    let opens : Opens (waiting.Head ∷ ws) (head_of_net a) true ts out = (m.before, m.words, m.text, head_begun p (head_of_net a) m.words i.head m.begun, refl, m.head, m.opens) in
    subst (λ z. Stands z (ts ++ w ∷ [])) (some_same _ s e) (net_begun w (head_of_net a) a true (waiting.Head ∷ ws) out ts (subst (λ o. IsNet w o a) i.head i) opens)
net_steps None p w ws out ts s f m e = within_progress (next p w) p w ws out ts s m (continued m.head p m.words w m.begun) e

at_steps : (o : Option (Head × Waiting)) (p : Partial) (w : Token) (ws : List Waiting) (out : List Step) (ts : List Token) (s : State) → values_after w (head_of p) ≡ o → Amid p ws out ts → within_at o p w ws out ≡ Some s → Stands s (ts ++ w ∷ [])
at_steps (Some x) p w ws out ts s f m e = subst (λ z. Stands z (ts ++ w ∷ [])) (some_same _ s e) (values_opened (head_of p) w x p ws out ts refl f m)
at_steps None p w ws out ts s f m e = net_steps (net_address_of w (head_of p)) p w ws out ts s refl m e

within_steps : (b : Bool) (p : Partial) (w : Token) (ws : List Waiting) (out : List Step) (ts : List Token) (s : State) → closes_term p w ws ≡ b → Amid p ws out ts → cond b (Some (record { doing = Within p; waiting = tail_of ws; steps = out })) (within_at (values_after w (head_of p)) p w ws out) ≡ Some s → Stands s (ts ++ w ∷ [])
within_steps true p w ws out ts s f m e = subst (λ x. Stands x (ts ++ w ∷ [])) (some_same _ s e) (group_steps p w ws out ts f m)
within_steps false p w ws out ts s f m e = at_steps (values_after w (head_of p)) p w ws out ts s refl m e

-- after the address of a network, which is complete without a mask
pub net_stands : (a : NetAddress) (ws : List Waiting) (out : List Step) (ts : List Token) → StandsAt (Net a) ws out ts → Stands (put_net a ws out) ts
net_stands a ws out ts x =
    let n = x.1 in
    subst (Stands (put_net a ws out)) (sym x.2) (completes ws x.0 out (n.word ∷ []) (one (primitive_of_net a)) n.only (head_of_net a) (head_of_net a) n.opens (value n.word n.is.value))

net_on : (a : NetAddress) (w : Token) (ws : List Waiting) (out : List Step) (ts : List Token) (s : State) → StandsAt (Net a) ws out ts → step_net a w ws out ≡ Some s → Stands s (ts ++ w ∷ [])
net_on a token.Mask ws out ts s x e =
    subst (λ z. Stands z (ts ++ token.Mask ∷ [])) (some_same _ s e) (x.0, x.1, ap (λ l. l ++ token.Mask ∷ []) x.2 ∙ append_assoc x.0 (x.1.word ∷ []) (token.Mask ∷ []))
net_on a w ws out ts s x e =
    let y = put_net a ws out in
    after_steps y.doing w y.waiting y.steps ts s (net_stands a ws out ts x) e

-- its mask
mask_on : (o : Option Primitive) (a : NetAddress) (w : Token) (ws : List Waiting) (out : List Step) (ts : List Token) (s : State) → masked_value_of (head_of_net a) (Some a.address) (ipv4_of w) ≡ o → StandsAt (Mask a) ws out ts → on_progress (found (head_of_net a) o) ws out ≡ Some s → Stands s (ts ++ w ∷ [])
mask_on (Some p) a w ws out ts s f x e =
    let n = x.1 in
    let h = head_of_net a in
    let is : masked_value_of h (ipv4_of n.word) (ipv4_of w) ≡ Some p = ap (λ o. masked_value_of h o (ipv4_of w)) n.is.address ∙ f in
    let done : Stands (put p h ws out) (x.0 ++ n.word ∷ token.Mask ∷ w ∷ []) = completes ws x.0 out (n.word ∷ token.Mask ∷ w ∷ []) (one p) n.only h h n.opens (masked_value n.word w is) in
    let place : x.0 ++ n.word ∷ token.Mask ∷ w ∷ [] ≡ ts ++ w ∷ [] = sym (ap (λ l. l ++ w ∷ []) x.2 ∙ append_assoc x.0 (n.word ∷ token.Mask ∷ []) (w ∷ [])) in
    subst (λ z. Stands z (ts ++ w ∷ [])) (some_same _ s e) (subst (Stands (put p h ws out)) place done)
mask_on None a w ws out ts s f x e = cc

steps_at : (d : Doing) (w : Token) (ws : List Waiting) (out : List Step) (ts : List Token) (s : State) → StandsAt d ws out ts → step_state d w ws out ≡ Some s → Stands s (ts ++ w ∷ [])
steps_at (Operand h only) w ws out ts s x e = operand_steps (waiting_of h only w) w only h ws out ts s refl x e
steps_at (Within p) w ws out ts s x e = within_steps (closes_term p w ws) p w ws out ts s refl x e
steps_at (Net a) w ws out ts s x e = net_on a w ws out ts s x e
steps_at (Mask a) w ws out ts s x e = mask_on (masked_value_of (head_of_net a) (Some a.address) (ipv4_of w)) a w ws out ts s refl x e
steps_at (Operator c h) w ws out ts s x e = operator_steps c h w ws out ts s x e

pub stands_on : (x : State) (w : Token) (ts : List Token) (s : State) → Stands x ts → step_of x w ≡ Some s → Stands s (ts ++ w ∷ [])
stands_on x w ts s h e = steps_at x.doing w x.waiting x.steps ts s h e

pub stands_first : Stands start []
stands_first = (refl, refl, refl, refl)

-- what is read at the end
pub record Read (ts : List Token) (out : List Step) : Type 0 where
  pub expression : Expression
  pub text : IsExpression ts expression
  pub program : out ≡ postfix expression

ends_at : (d : Doing) (ws : List Waiting) (out o : List Step) (ts : List Token) → StandsAt d ws out ts → finish_at d ws out ≡ Some o → Read ts o
ends_at (Operand h only) ws out o ts x e = cc
ends_at (Within p) ws out o ts x e = cc
ends_at (Net a) ws out o ts x e = cc
ends_at (Mask a) ws out o ts x e = cc
ends_at (Operator c h) (w ∷ ws) out o ts x e = cc
ends_at (Operator c h) [] out o ts b e = record {
  expression = b.expression;
  text = record { kind = kind_of c; last = h; reads = subst (λ v. Reads (kind_of c) v first_head ts b.expression h) b.opens.3 (subst (λ g. Reads (kind_of c) b.only g ts b.expression h) b.opens.2 (subst (λ l. Reads (kind_of c) b.only b.head l b.expression h) (sym (b.text ∙ ap (λ l. l ++ b.words) b.opens.0)) b.reads)) };
  program = sym (some_same out o e) ∙ b.program ∙ ap (λ l. l ++ postfix b.expression) b.opens.1;
}

whole_ends : (a : Option Primitive) (p : Partial) (ws : List Waiting) (out o : List Step) (ts : List Token) → whole p ≡ a → Amid p ws out ts → and_then (completed a ws out) finish_state ≡ Some o → Read ts o
whole_ends None p ws out o ts h m e = cc
whole_ends (Some a) p ws out o ts h m e =
    let x = put a first_head ws out in
    ends_at x.doing x.waiting x.steps o ts (whole_stands p a ws out ts h m) e

finishes_at : (d : Doing) (ws : List Waiting) (out o : List Step) (ts : List Token) → StandsAt d ws out ts → finish_doing d ws out ≡ Some o → Read ts o
finishes_at (Operand h only) ws out o ts x e = cc
finishes_at (Within p) ws out o ts x e = whole_ends (whole p) p ws out o ts refl x e
finishes_at (Net a) ws out o ts x e =
    let y = put_net a ws out in
    ends_at y.doing y.waiting y.steps o ts (net_stands a ws out ts x) e
finishes_at (Mask a) ws out o ts x e = cc
finishes_at (Operator c h) ws out o ts x e = ends_at (Operator c h) ws out o ts x e

pub read_at_end : (s : State) (o : List Step) (ts : List Token) → Stands s ts → finish s ≡ Some o → Read ts o
read_at_end s o ts h e = finishes_at s.doing s.waiting s.steps o ts h e
