-- What can follow the words that were read.
use Rattle.std.proofs.Common.{zero, suc, lit≤, ◌≡◌, ◌==◌, ◌&&◌, ℕ, Bool, true, false, List, [], ◌∷◌, ◌++◌, Option, Some, None, refl, sym, ap, ◌∙◌, subst, append_assoc, inr}
use Rattle.std.proofs.lemmas.List.{append-nil}
use Rattle.std.specs.Prelude.{bit_and, bit_or, codes}
use Rattle.std.specs.Fmt.{digits}
use Rattle.std.specs.Int.Bits.{and_zero_r}
use Rattle.std.proofs.lemmas.Fmt.{decimal_digit}
use Rattle.std.specs.Net.Addr.{ipv4_bits, ipv6_bits}
use Rattle.std.specs.Net.Text.{dotted_text}
use Rattle.std.specs.declared.net.ip_addr.IpAddr.TheVariants as Ip
use Rattle.packet_filter.specs.Addresses.{IsAddress}
use Rattle.packet_filter.specs.Language.{AreSpelled}
use Rattle.packet_filter.specs.Names.{name_of}
use Rattle.packet_filter.specs.Text.{words_of}
use Rattle.packet_filter.specs.Values.{named_value_of}
use Rattle.packet_filter.proofs.Complete.{EndsOperand, Takes, alone_ends, amid, any_takes, ether_takes, expects, has_net, head_takes, net_ends, network_takes, value_alone}
use Rattle.packet_filter.proofs.Sound.{Amid, Begun, Opens, Read, Stands, StandsAt, read_at_end, stands_on}
use Rattle.packet_filter.specs.Meaning.{Expression}
use Rattle.packet_filter.proofs.Runs.{then_some}
use Rattle.packet_filter.specs.Program.{and_then}
use Rattle.packet_filter.specs.Grammar.{IsExpression, ethernet_broadcast, first_head, fits, masked_value_of, provided, value_of}
use Rattle.packet_filter.specs.Private.Machine.{State, complete, found, head_of_net, joined, on_progress, outcome, primitive_of_net, put, step_of}
use Rattle.packet_filter.specs.declared.address.Address.TheVariants.{V4, V6}
use Rattle.packet_filter.specs.declared.expression.Direction.{Direction}
use Rattle.packet_filter.specs.declared.expression.Layer.{Layer}
use Rattle.packet_filter.specs.declared.expression.Network.{Network}
use Rattle.packet_filter.specs.declared.expression.Network.TheVariants as network
use Rattle.packet_filter.specs.declared.expression.Operator.{Operator as Joiner}
use Rattle.packet_filter.specs.declared.expression.Operator.TheVariants.{And, Or}
use Rattle.packet_filter.specs.declared.expression.Primitive.{Primitive}
use Rattle.packet_filter.specs.declared.expression.Primitive.TheVariants as says
use Rattle.packet_filter.specs.declared.expression.Quantity.{Quantity}
use Rattle.packet_filter.specs.declared.expression.Quantity.TheVariants.{Length, Load}
use Rattle.packet_filter.specs.declared.expression.Relation.TheVariants as relation
use Rattle.packet_filter.specs.declared.expression.Size.{Size}
use Rattle.packet_filter.specs.declared.expression.Size.TheVariants.{One}
use Rattle.packet_filter.specs.declared.expression.Version.TheVariants as version
use Rattle.packet_filter.specs.declared.filter.Step.{Step}
use Rattle.packet_filter.specs.declared.filter.Step.TheVariants as step
use Rattle.packet_filter.specs.declared.head.Head.{Head}
use Rattle.packet_filter.specs.declared.head.Head.TheVariants as head
use Rattle.packet_filter.specs.declared.machine.Doing.{Doing}
use Rattle.packet_filter.specs.declared.machine.Doing.TheVariants.{Mask, Net, Operand, Within, Operator}
use Rattle.packet_filter.specs.declared.machine.Waiting.{Waiting}
use Rattle.packet_filter.specs.declared.machine.Waiting.TheVariants as waiting
use Rattle.packet_filter.specs.declared.partial.NetAddress.{NetAddress}
use Rattle.packet_filter.specs.declared.partial.Partial.{Partial}
use Rattle.packet_filter.specs.declared.partial.Partial.TheVariants as partial
use Rattle.packet_filter.specs.declared.partial.Scope.{Scope}
use Rattle.packet_filter.specs.declared.partial.Scope.TheVariants as scope
use Rattle.packet_filter.specs.declared.partial.Use.{Use}
use Rattle.packet_filter.specs.declared.partial.Use.TheVariants.{Limit, Masking}
use Rattle.packet_filter.specs.declared.token.Token.{Token}
use Rattle.packet_filter.specs.declared.token.Token.TheVariants as token

-- ---- closing parentheses, and their text

abbrev pub closings : ℕ → List Token
closings zero = []
closings (suc n) = token.Close ∷ closings n

abbrev parens : ℕ → List ℕ
parens zero = []
parens (suc n) = 41 ∷ parens n

closed : (n : ℕ) → AreSpelled (words_of (parens n)) (closings n)
unfolding name_of
closed zero = tt
closed (suc n) = (refl, closed n)

pub closing : (n : ℕ) → EndsOperand (closings n)
closing zero = tt
closing (suc n) = tt

-- how many close what waits
abbrev pub open_in : List Waiting → ℕ
open_in [] = zero
open_in (waiting.Open h only ∷ ws) = suc (open_in ws)
open_in (waiting.Not ∷ ws) = open_in ws
open_in (waiting.Head ∷ ws) = open_in ws
open_in (waiting.Operator o ∷ ws) = open_in ws

-- they end the expression
pub record Ends (us : List Token) (s : State) : Type 0 where
  pub steps : List Step
  pub ends : outcome us s ≡ Some steps

closes_first : (c : Option Joiner) (h g : Head) (only : Bool) (ws : List Waiting) (out : List Step) (us : List Token) → outcome (token.Close ∷ us) (record { doing = Operator c h; waiting = waiting.Open g only ∷ ws; steps = out }) ≡ outcome us (complete g ws out)
closes_first None h g only ws out us = refl
closes_first (Some And) h g only ws out us = refl
closes_first (Some Or) h g only ws out us = refl

pub closed_up : (ws : List Waiting) (g h : Head) (only : Bool) (ts : List Token) (out x : List Step) → Opens ws g only ts out → Ends (closings (open_in ws)) (complete h ws x)
closed_up [] g h only ts out x o = record { steps = x; ends = refl }
closed_up (waiting.Open i v ∷ ws) g h only ts out x o = let e = closed_up ws i i v o.0 out x o.2 in record { steps = e.steps; ends = e.ends }
closed_up (waiting.Not ∷ ws) g h only ts out x o = closed_up ws g h only o.0 out (x ++ step.Not ∷ []) o.2
closed_up (waiting.Head ∷ ws) g h only ts out x o = closed_up ws o.5 h false o.0 out x o.6
closed_up (waiting.Operator j ∷ []) g h only ts out x o = record { steps = x ++ step.Operator j ∷ []; ends = refl }
closed_up (waiting.Operator j ∷ waiting.Open i v ∷ ws) g h only ts out x o =
    let e = closed_up ws i i v o.9.0 o.1 (x ++ step.Operator j ∷ []) o.9.2 in
    record { steps = e.steps; ends = closes_first (Some j) h i v ws (x ++ step.Operator j ∷ []) (closings (open_in ws)) ∙ e.ends }
closed_up (waiting.Operator j ∷ waiting.Not ∷ ws) g h only ts out x o = absurd o.6
closed_up (waiting.Operator j ∷ waiting.Head ∷ ws) g h only ts out x o = absurd o.6
closed_up (waiting.Operator j ∷ waiting.Operator p ∷ ws) g h only ts out x o = absurd o.6

-- ---- words that complete a primitive, and their text

-- a mask of all bits
dotted_ones : codes "255.255.255.255" ≡ dotted_text 255 255 255 255
unfolding digits
dotted_ones = refl

pub ones_4 : IsAddress (codes "255.255.255.255") (Some (V4 4294967295))
unfolding ipv4_bits
ones_4 = (
  Ip.V4 (record { octets = 255 ∷ 255 ∷ 255 ∷ 255 ∷ [] }),
  record { a = 255; b = 255; c = 255; d = 255; fit = (lit≤ tt, lit≤ tt, lit≤ tt, lit≤ tt); value = refl; spelled = dotted_ones },
  refl,
)

abbrev pub with_all_bits : NetAddress → Primitive
with_all_bits a = says.Masked a.network a.direction a.address 4294967295

pub all_bits : (a : NetAddress) → fits a.network (V4 a.address) ≡ true → masked_value_of (head_of_net a) (Some a.address) (Some 4294967295) ≡ Some (with_all_bits a)
all_bits a f =
    ap (λ b. provided (b && (bit_and a.address 0 == 0)) (with_all_bits a)) f ∙ ap (λ k. provided (k == 0) (with_all_bits a)) (and_zero_r a.address)

dotted : codes "0.0.0.0" ≡ dotted_text 0 0 0 0
dotted = ap (λ z. z ++ codes "." ++ z ++ codes "." ++ z ++ codes "." ++ z) (sym (decimal_digit 0 (lit≤ tt)))

zeros_4 : IsAddress (codes "0.0.0.0") (Some (V4 0))
unfolding ipv4_bits
zeros_4 = (
  Ip.V4 (record { octets = 0 ∷ 0 ∷ 0 ∷ 0 ∷ [] }),
  record { a = 0; b = 0; c = 0; d = 0; fit = (lit≤ tt, lit≤ tt, lit≤ tt, lit≤ tt); value = refl; spelled = dotted },
  refl,
)

zeros_6 : IsAddress (codes "::") (Some (V6 0))
unfolding ipv6_bits
zeros_6 = (
  Ip.V6 (record { segments = 0 ∷ 0 ∷ 0 ∷ 0 ∷ 0 ∷ 0 ∷ 0 ∷ 0 ∷ [] }),
  inr (record { head_text = []; tail_text = []; head = []; tail = []; spelled = refl; head_groups = refl; tail_groups = refl; room = lit≤ tt; value = refl }),
  refl,
)

-- a word, its text and a space, before any other text
record Says (text : List ℕ) (w : Token) : Type 0 where
  spells : (more : List ℕ) (ts : List Token) → AreSpelled (words_of more) ts → AreSpelled (words_of (text ++ more)) (w ∷ ts)

says_4 : Says (codes "0.0.0.0 ") (token.Address (V4 0))
unfolding name_of named_value_of
says_4 = record { spells = λ more ts h. (record { address = Some (V4 0); is = zeros_4; says = refl }, h) }

says_mask : Says (codes "255.255.255.255 ") (token.Address (V4 4294967295))
unfolding name_of named_value_of
says_mask = record { spells = λ more ts h. (record { address = Some (V4 4294967295); is = ones_4; says = refl }, h) }

says_6 : Says (codes ":: ") (token.Address (V6 0))
unfolding name_of named_value_of
says_6 = record { spells = λ more ts h. (record { address = Some (V6 0); is = zeros_6; says = refl }, h) }

says_number : Says (codes "0 ") (token.Number 0)
unfolding name_of named_value_of
says_number = record { spells = λ more ts h. (refl, h) }

says_range : Says (codes "0-0 ") (token.Range 0 0)
unfolding name_of named_value_of
says_range = record { spells = λ more ts h. (refl, h) }

says_type : Says (codes "2048 ") (token.Number 2048)
unfolding name_of named_value_of
says_type = record { spells = λ more ts h. (refl, h) }

says_hardware : Says (codes "00:00:00:00:00:00 ") (token.Hardware (0 ∷ 0 ∷ 0 ∷ 0 ∷ 0 ∷ 0 ∷ []))
unfolding name_of named_value_of
says_hardware = record { spells = λ more ts h. (refl, h) }

says_port : Says (codes "port ") token.Port
unfolding name_of
says_port = record { spells = λ more ts h. (refl, h) }

says_dst : Says (codes "dst ") token.Destination
unfolding name_of
says_dst = record { spells = λ more ts h. (refl, h) }

says_fragment : Says (codes "fragment ") token.Fragment
unfolding name_of
says_fragment = record { spells = λ more ts h. (refl, h) }

says_broadcast : Says (codes "broadcast ") token.Broadcast
unfolding name_of
says_broadcast = record { spells = λ more ts h. (refl, h) }

says_wrong : Says (codes "wrong ") token.Wrong
unfolding name_of
says_wrong = record { spells = λ more ts h. (refl, h) }

says_bracket : Says (codes "] ") token.CloseBracket
unfolding name_of
says_bracket = record { spells = λ more ts h. (refl, h) }

says_equal : Says (codes "= ") (token.Relation relation.Equal)
unfolding name_of
says_equal = record { spells = λ more ts h. (refl, h) }

says_close : Says (codes ") ") token.Close
unfolding name_of
says_close = record { spells = λ more ts h. (refl, h) }

-- ---- any state

-- a text whose words end the expression
record Rest (s : State) : Type 0 where
  more : List ℕ
  tokens : List Token
  spelled : AreSpelled (words_of more) tokens
  ends : Ends tokens s

-- one word, and then such a text
go : (s next : State) (w : Token) (text : List ℕ) → ((us : List Token) → outcome (w ∷ us) s ≡ outcome us next) → Says text w → Rest next → Rest s
go s next w text read x r = record {
  more = text ++ r.more;
  tokens = w ∷ r.tokens;
  spelled = x.spells r.more r.tokens r.spelled;
  ends = record { steps = r.ends.steps; ends = read r.tokens ∙ r.ends.ends };
}

-- a text whose words can follow an operand
record Closed (s : State) : Type 0 where
  rest : Rest s
  follows : EndsOperand rest.tokens

-- one word before it
go_before : (s next : State) (w : Token) (text : List ℕ) → ((us : List Token) → EndsOperand us → outcome (w ∷ us) s ≡ outcome us next) → Says text w → Closed next → Rest s
go_before s next w text read x c = let r = c.rest in record {
  more = text ++ r.more;
  tokens = w ∷ r.tokens;
  spelled = x.spells r.more r.tokens r.spelled;
  ends = record { steps = r.ends.steps; ends = read r.tokens c.follows ∙ r.ends.ends };
}

-- an operand is complete
closed_rest : (ws : List Waiting) (g h : Head) (only : Bool) (ts : List Token) (out x : List Step) → Opens ws g only ts out → Closed (complete h ws x)
closed_rest ws g h only ts out x o = record {
  rest = record { more = parens (open_in ws); tokens = closings (open_in ws); spelled = closed (open_in ws); ends = closed_up ws g h only ts out x o };
  follows = closing (open_in ws);
}

abbrev Closes : List Waiting → Type 0
Closes ws = (h : Head) (x : List Step) → Closed (complete h ws x)

-- a value of a head
record HasValue (h : Head) : Type 0 where
  word : Token
  text : List ℕ
  says : Says text word
  primitive : Primitive
  is : value_of word h ≡ Some primitive

a_value : (h : Head) (w : Token) (text : List ℕ) → Says text w → (p : Primitive) → value_of w h ≡ Some p → HasValue h
a_value h w text x p e = record { word = w; text = text; says = x; primitive = p; is = e }

host_value : (n : Option Network) (d : Option Direction) → HasValue (head.Host n d)
host_value None d = a_value _ (token.Address (V4 0)) (codes "0.0.0.0 ") says_4 _ refl
host_value (Some (network.Ip version.Ipv4)) d = a_value _ (token.Address (V4 0)) (codes "0.0.0.0 ") says_4 _ refl
host_value (Some (network.Ip version.Ipv6)) d = a_value _ (token.Address (V6 0)) (codes ":: ") says_6 _ refl
host_value (Some network.Arp) d = a_value _ (token.Address (V4 0)) (codes "0.0.0.0 ") says_4 _ refl
host_value (Some network.Rarp) d = a_value _ (token.Address (V4 0)) (codes "0.0.0.0 ") says_4 _ refl

net_value : (n : Option Network) (d : Option Direction) → HasValue (head.Net n d)
net_value None d = a_value _ (token.Address (V4 0)) (codes "0.0.0.0 ") says_4 _ refl
net_value (Some (network.Ip version.Ipv4)) d = a_value _ (token.Address (V4 0)) (codes "0.0.0.0 ") says_4 _ refl
net_value (Some (network.Ip version.Ipv6)) d = a_value _ (token.Address (V6 0)) (codes ":: ") says_6 _ refl
net_value (Some network.Arp) d = a_value _ (token.Address (V4 0)) (codes "0.0.0.0 ") says_4 _ refl
net_value (Some network.Rarp) d = a_value _ (token.Address (V4 0)) (codes "0.0.0.0 ") says_4 _ refl

has_value : (h : Head) → HasValue h
has_value (head.Host n d) = host_value n d
has_value (head.Net n d) = net_value n d
has_value (head.Port t d) = a_value _ (token.Number 0) (codes "0 ") says_number _ refl
has_value (head.PortRange t d) = a_value _ (token.Range 0 0) (codes "0-0 ") says_range _ refl
has_value (head.Proto v) = a_value _ (token.Number 0) (codes "0 ") says_number _ refl
has_value (head.Ether d) = a_value _ (token.Hardware (0 ∷ 0 ∷ 0 ∷ 0 ∷ 0 ∷ 0 ∷ [])) (codes "00:00:00:00:00:00 ") says_hardware _ refl
has_value head.EtherProto = a_value _ (token.Number 2048) (codes "2048 ") says_type _ refl

value_rest : (q : Partial) (h : Head) (ws : List Waiting) (out : List Step) → Takes q h → Closes ws → Rest (amid q ws out)
value_rest q h ws out t k = let v = has_value h in go_before _ (put v.primitive h ws out) v.word v.text (λ us f. t.value v.word v.primitive v.is ws out us f) v.says (k _ _)

directed_rest : (s : Scope) (d : Direction) (ws : List Waiting) (out : List Step) → Closes ws → Rest (amid (partial.Directed s d) ws out)
directed_rest scope.Any d ws out k = value_rest _ _ ws out (any_takes d) k
directed_rest (scope.Network n) d ws out k = value_rest _ _ ws out (network_takes n d) k
directed_rest (scope.Transport t) d ws out k = go _ (amid (partial.Value (head.Port (Some t) (Some d))) ws out) _ _ (λ us. refl) says_port (value_rest _ _ ws out (head_takes _) k)
directed_rest scope.Ether d ws out k = value_rest _ _ ws out (ether_takes d) k

joined_rest : (s : Scope) (o : Joiner) (ws : List Waiting) (out : List Step) → Closes ws → Rest (amid (partial.Joined s o) ws out)
joined_rest s o ws out k = go _ (amid (partial.Directed s (joined o)) ws out) _ _ (λ us. refl) says_dst (directed_rest s (joined o) ws out k)

term_rest : (q : Quantity) (mask : Option ℕ) (ws : List Waiting) (out : List Step) → Closes ws → Rest (amid (partial.Term q mask) ws out)
term_rest q mask ws out k = go _ (amid (partial.Constant (Limit q mask relation.Equal)) ws out) _ _ (λ us. refl) says_equal (go _ (put (says.Compare q mask relation.Equal 0) first_head ws out) _ _ (λ us. refl) says_number (k _ _).rest)

constant_rest : (u : Use) (ws : List Waiting) (out : List Step) → Closes ws → Rest (amid (partial.Constant u) ws out)
constant_rest (Masking q) ws out k = go _ (amid (partial.Term q (Some 0)) ws out) _ _ (λ us. refl) says_number (term_rest q (Some 0) ws out k)
constant_rest (Limit q mask r) ws out k = go _ (put (says.Compare q mask r 0) first_head ws out) _ _ (λ us. refl) says_number (k _ _).rest

listed_rest : (u : Use) (bits : ℕ) (ws : List Waiting) (out : List Step) → Closes ws → Rest (amid (partial.Listed u bits) ws out)
listed_rest (Masking q) bits ws out k = go _ (amid (partial.Term q (Some bits)) ws out) _ _ (λ us. refl) says_close (term_rest q (Some bits) ws out k)
listed_rest (Limit q mask r) bits ws out k = go _ (put (says.Compare q mask r bits) first_head ws out) _ _ (λ us. refl) says_close (k _ _).rest

placed_rest : (l : Layer) (place : ℕ) (size : Size) (ws : List Waiting) (out : List Step) → Closes ws → Rest (amid (partial.Placed l place size) ws out)
placed_rest l place size ws out k = go _ (amid (partial.Term (Load l place size) None) ws out) _ _ (λ us. refl) says_bracket (term_rest _ None ws out k)

rest_within : (p : Partial) (ws : List Waiting) (out : List Step) (words : List Token) → Begun p words → Closes ws → ((w : Token) → p ≡ partial.Word w → Rest (amid p ws out)) → Rest (amid p ws out)
rest_within (partial.Word w) ws out words b k f = f w refl
rest_within partial.Ether ws out words b k f = go _ (put ethernet_broadcast first_head ws out) _ _ (λ us. refl) says_broadcast (k _ _).rest
rest_within (partial.Directed s d) ws out words b k f = directed_rest s d ws out k
rest_within (partial.Joined s o) ws out words b k f = joined_rest s o ws out k
rest_within (partial.Value h) ws out words b k f = value_rest _ h ws out (head_takes h) k
rest_within partial.Less ws out words b k f = go _ (put (says.Compare Length None relation.LessOrEqual 0) first_head ws out) _ _ (λ us. refl) says_number (k _ _).rest
rest_within partial.Greater ws out words b k f = go _ (put (says.Compare Length None relation.GreaterOrEqual 0) first_head ws out) _ _ (λ us. refl) says_number (k _ _).rest
rest_within partial.First ws out words b k f = go _ (put says.FirstFragment first_head ws out) _ _ (λ us. refl) says_fragment (k _ _).rest
rest_within partial.Checksum ws out words b k f = go _ (put says.WrongChecksum first_head ws out) _ _ (λ us. refl) says_wrong (k _ _).rest
rest_within (partial.Bracket l) ws out words b k f = go _ (amid (partial.Placed l 0 One) ws out) _ _ (λ us. refl) says_number (placed_rest l 0 One ws out k)
rest_within (partial.Placed l place size) ws out words b k f = placed_rest l place size ws out k
rest_within (partial.Term q mask) ws out words b k f = term_rest q mask ws out k
rest_within (partial.Constant u) ws out words b k f = constant_rest u ws out k
rest_within (partial.Opened u) ws out words b k f = go _ (amid (partial.Listed u 0) ws out) _ _ (λ us. refl) says_number (listed_rest u 0 ws out k)
rest_within (partial.Listed u bits) ws out words b k f = listed_rest u bits ws out k
rest_within (partial.Bar u bits) ws out words b k f = go _ (amid (partial.Listed u (bit_or bits 0)) ws out) _ _ (λ us. refl) says_number (listed_rest u (bit_or bits 0) ws out k)

-- a word that stands alone is complete
word_rest : (p : Partial) (ws : List Waiting) (out : List Step) (ts : List Token) (m : Amid p ws out ts) (w : Token) → p ≡ partial.Word w → Rest (amid p ws out)
word_rest p ws out ts m w e =
    let b : Begun (partial.Word w) m.words = subst (λ q. Begun q m.words) e m.begun in
    let c = closed_up ws m.head first_head false m.before out (out ++ step.Test b.0 ∷ []) m.opens in
    record {
      more = parens (open_in ws);
      tokens = closings (open_in ws);
      spelled = closed (open_in ws);
      ends = record { steps = c.steps; ends = subst (λ q. outcome (closings (open_in ws)) (amid q ws out) ≡ Some c.steps) (sym e) (alone_ends w b.0 ws out (closings (open_in ws)) b.1 (closing (open_in ws)) ∙ c.ends) };
    }

-- the address of a network is complete, and its mask completes it
net_rest : (a : NetAddress) (ws : List Waiting) (out : List Step) (ts : List Token) → StandsAt (Net a) ws out ts → Rest (has_net a ws out)
net_rest a ws out ts x =
    let c = closed_up ws (head_of_net a) (head_of_net a) x.1.only x.0 out (out ++ step.Test (primitive_of_net a) ∷ []) x.1.opens in
    record {
      more = parens (open_in ws);
      tokens = closings (open_in ws);
      spelled = closed (open_in ws);
      ends = record { steps = c.steps; ends = net_ends a ws out (closings (open_in ws)) (closing (open_in ws)) ∙ c.ends };
    }

mask_rest : (a : NetAddress) (ws : List Waiting) (out : List Step) (ts : List Token) → StandsAt (Mask a) ws out ts → Rest (record { doing = Mask a; waiting = ws; steps = out })
mask_rest a ws out ts x =
    go _ (put (with_all_bits a) (head_of_net a) ws out) _ _ (λ us. ap (λ o. and_then (on_progress (found (head_of_net a) o) ws out) (outcome us)) (all_bits a x.1.is.fits)) says_mask
    (closed_rest ws (head_of_net a) (head_of_net a) x.1.only x.0 out (out ++ step.Test (with_all_bits a) ∷ []) x.1.opens).rest

operand_rest : (only : Bool) (h : Head) (ws : List Waiting) (out : List Step) → Closes ws → Rest (expects h only ws out)
operand_rest only h ws out k = let v = has_value h in go_before _ (put v.primitive h ws out) v.word v.text (λ us f. value_alone only v.word h v.primitive v.is ws out us f) v.says (k _ _)

rest_after : (d : Doing) (ws : List Waiting) (out : List Step) (ts : List Token) → StandsAt d ws out ts → Rest (record { doing = d; waiting = ws; steps = out })
rest_after (Operand h only) ws out ts o = operand_rest only h ws out (λ i x. closed_rest ws h i only ts out x o)
rest_after (Within p) ws out ts m = rest_within p ws out m.words m.begun (λ i x. closed_rest ws m.head i false m.before out x m.opens) (word_rest p ws out ts m)
rest_after (Net a) ws out ts x = net_rest a ws out ts x
rest_after (Mask a) ws out ts x = mask_rest a ws out ts x
rest_after (Operator c h) [] out ts b = record { more = []; tokens = []; spelled = tt; ends = record { steps = out; ends = refl } }
rest_after (Operator c h) (waiting.Open g only ∷ ws) out ts b =
    let e = closed_up ws g g only b.opens.0 b.steps out b.opens.2 in
    record { more = parens (suc (open_in ws)); tokens = closings (suc (open_in ws)); spelled = closed (suc (open_in ws)); ends = record { steps = e.steps; ends = closes_first c h g only ws out (closings (open_in ws)) ∙ e.ends } }
rest_after (Operator c h) (waiting.Not ∷ ws) out ts b = absurd b.base
rest_after (Operator c h) (waiting.Head ∷ ws) out ts b = absurd b.base
rest_after (Operator c h) (waiting.Operator o ∷ ws) out ts b = absurd b.base

-- what was read, and words that end the expression after it, are one
ends_reading : (us ts : List Token) (s : State) (o : List Step) → Stands s ts → outcome us s ≡ Some o → Read (ts ++ us) o
ends_reading [] ts s o h e = subst (λ l. Read l o) (sym (append-nil ts)) (read_at_end s o ts h e)
ends_reading (u ∷ us) ts s o h e =
    let n = then_some (step_of s u) (outcome us) o e in
    subst (λ l. Read l o) (append_assoc ts (u ∷ []) us) (ends_reading us (ts ++ u ∷ []) n.0 o (stands_on s u ts n.0 h n.1) n.2)

-- a text whose words make an expression together with what was read
pub record GoesOn (ts : List Token) : Type 0 where
  pub more : List ℕ
  pub tokens : List Token
  pub spelled : AreSpelled (words_of more) tokens
  pub expression : Expression
  pub is : IsExpression (ts ++ tokens) expression

pub stands_can_go_on : (s : State) (ts : List Token) → Stands s ts → GoesOn ts
stands_can_go_on s ts h =
    let r = rest_after s.doing s.waiting s.steps ts h in
    let x = ends_reading r.tokens ts s r.ends.steps h r.ends.ends in
    record { more = r.more; tokens = r.tokens; spelled = r.spelled; expression = x.expression; is = x.text }
