-- Reading an expression a word at a time.
use Rattle.std.specs.Prelude.{ℕ, ◌+◌, Bool, true, false, Option, Some, None, List, [], ◌∷◌, ◌++◌}
use Rattle.std.specs.Prelude.{bit_or, if◌then◌else◌, length, nat_le}
use Rattle.packet_filter.specs.Grammar.{alone, ethernet_broadcast, ethernet_multicast, first_head}
use Rattle.packet_filter.specs.Grammar.{fits, ip_multicast, ipv4_of, masked_value_of}
use Rattle.packet_filter.specs.Grammar.{network_layer, value_of}
use Rattle.packet_filter.specs.Meaning.{transport_number}
use Rattle.packet_filter.specs.Program.{and_then}
use Rattle.packet_filter.specs.declared.address.Address.TheVariants.{V4}
use Rattle.packet_filter.specs.declared.expected.Expected.{Expected}
use Rattle.packet_filter.specs.declared.expected.Expected.TheVariants as expected
use Rattle.packet_filter.specs.declared.expression.Direction.{Direction}
use Rattle.packet_filter.specs.declared.expression.Direction.TheVariants as direction
use Rattle.packet_filter.specs.declared.expression.Layer.{Layer}
use Rattle.packet_filter.specs.declared.expression.Layer.TheVariants as layer
use Rattle.packet_filter.specs.declared.expression.Network.{Network}
use Rattle.packet_filter.specs.declared.expression.Network.TheVariants as network
use Rattle.packet_filter.specs.declared.expression.Operator.{Operator as Joiner}
use Rattle.packet_filter.specs.declared.expression.Operator.TheVariants.{And, Or}
use Rattle.packet_filter.specs.declared.expression.Primitive.{Primitive}
use Rattle.packet_filter.specs.declared.expression.Primitive.TheVariants as says
use Rattle.packet_filter.specs.declared.expression.Quantity.{Quantity}
use Rattle.packet_filter.specs.declared.expression.Quantity.TheVariants as quantity
use Rattle.packet_filter.specs.declared.expression.Relation.TheVariants as relation
use Rattle.packet_filter.specs.declared.expression.Size.{Size}
use Rattle.packet_filter.specs.declared.expression.Size.TheVariants.{One}
use Rattle.packet_filter.specs.declared.expression.Transport.{Transport}
use Rattle.packet_filter.specs.declared.expression.Version.{Version}
use Rattle.packet_filter.specs.declared.expression.Version.TheVariants.{Ipv4}
use Rattle.packet_filter.specs.declared.filter.Step.{Step}
use Rattle.packet_filter.specs.declared.filter.Step.TheVariants as step
use Rattle.packet_filter.specs.declared.head.Head.{Head}
use Rattle.packet_filter.specs.declared.head.Head.TheVariants as head
use Rattle.packet_filter.specs.declared.machine.Doing.{Doing}
use Rattle.packet_filter.specs.declared.machine.Doing.TheVariants.{Mask, Net, Operand, Operator}
use Rattle.packet_filter.specs.declared.machine.Doing.TheVariants.{Within}
use Rattle.packet_filter.specs.declared.machine.Machine.{Machine}
use Rattle.packet_filter.specs.declared.machine.Waiting.{Waiting}
use Rattle.packet_filter.specs.declared.machine.Waiting.TheVariants as waiting
use Rattle.packet_filter.specs.declared.partial.NetAddress.{NetAddress}
use Rattle.packet_filter.specs.declared.partial.Partial.{Partial}
use Rattle.packet_filter.specs.declared.partial.Partial.TheVariants as partial
use Rattle.packet_filter.specs.declared.partial.Progress.{Progress}
use Rattle.packet_filter.specs.declared.partial.Progress.TheVariants.{More, Done, Foreign}
use Rattle.packet_filter.specs.declared.partial.Scope.{Scope}
use Rattle.packet_filter.specs.declared.partial.Scope.TheVariants as scope
use Rattle.packet_filter.specs.declared.partial.Use.{Use}
use Rattle.packet_filter.specs.declared.partial.Use.TheVariants.{Limit, Masking}
use Rattle.packet_filter.specs.declared.reading.FilterError.{FilterError}
use Rattle.packet_filter.specs.declared.reading.FilterError.TheVariants as error
use Rattle.packet_filter.specs.declared.token.Token.{Token}
use Rattle.packet_filter.specs.declared.token.Token.TheVariants as token

-- ---- primitives

-- the first word of a primitive
abbrev pub begin : Token → Progress
begin (token.Network n) = More (partial.Word (token.Network n))
begin (token.Transport t) = More (partial.Word (token.Transport t))
begin (token.Protocol v k) = More (partial.Word (token.Protocol v k))
begin (token.EtherType k) = More (partial.Word (token.EtherType k))
begin token.Broadcast = More (partial.Word token.Broadcast)
begin token.Multicast = More (partial.Word token.Multicast)
begin token.Vlan = More (partial.Word token.Vlan)
begin token.Fragment = More (partial.Word token.Fragment)
begin token.Ether = More partial.Ether
begin token.Source = More (partial.Directed scope.Any direction.Source)
begin token.Destination = More (partial.Directed scope.Any direction.Destination)
begin token.Host = More (partial.Value (head.Host None None))
begin token.Net = More (partial.Value (head.Net None None))
begin token.Port = More (partial.Value (head.Port None None))
begin token.PortRange = More (partial.Value (head.PortRange None None))
begin token.Proto = More (partial.Value (head.Proto None))
begin token.Length = More (partial.Term quantity.Length None)
begin token.Less = More partial.Less
begin token.Greater = More partial.Greater
begin token.First = More partial.First
begin token.Checksum = More partial.Checksum
begin _ = Foreign

-- a value after a head, or a word that is none
abbrev pub found : Head → Option Primitive → Progress
found h (Some p) = Done p h
found h None = Foreign

abbrev pub valued : Head → Token → Progress
valued h w = found h (value_of w h)

-- what is read of a primitive that has no value
abbrev pub made : Primitive → Progress
made p = Done p first_head

-- the words after `ip`, `ip6`, `arp` and `rarp`
abbrev pub after_network : Network → Token → Progress
after_network n token.Source = More (partial.Directed (scope.Network n) direction.Source)
after_network n token.Destination =
    More (partial.Directed (scope.Network n) direction.Destination)
after_network n token.Host = More (partial.Value (head.Host (Some n) None))
after_network n token.Net = More (partial.Value (head.Net (Some n) None))
after_network (network.Ip v) token.Proto = More (partial.Value (head.Proto (Some v)))
after_network (network.Ip v) token.Multicast = made (ip_multicast v)
after_network n token.OpenBracket = More (partial.Bracket (network_layer n))
after_network n _ = Foreign

abbrev pub after_transport : Transport → Token → Progress
after_transport t token.Source = More (partial.Directed (scope.Transport t) direction.Source)
after_transport t token.Destination =
    More (partial.Directed (scope.Transport t) direction.Destination)
after_transport t token.Port = More (partial.Value (head.Port (Some t) None))
after_transport t token.PortRange = More (partial.Value (head.PortRange (Some t) None))
after_transport t token.OpenBracket =
    More (partial.Bracket (layer.Payload None (transport_number t)))
after_transport t _ = Foreign

abbrev pub after_protocol : Layer → Token → Progress
after_protocol l token.OpenBracket = More (partial.Bracket l)
after_protocol l _ = Foreign

abbrev pub after_vlan : Token → Progress
after_vlan (token.Number k) = if nat_le k 4095 then made (says.Vlan (Some k)) else Foreign
after_vlan _ = Foreign

abbrev pub after_word : Token → Token → Progress
after_word (token.Network n) w = after_network n w
after_word (token.Transport t) w = after_transport t w
after_word (token.Protocol v k) w = after_protocol (layer.Payload v k) w
after_word token.Vlan w = after_vlan w
after_word _ w = Foreign

abbrev pub after_ether : Token → Progress
after_ether token.Source = More (partial.Directed scope.Ether direction.Source)
after_ether token.Destination = More (partial.Directed scope.Ether direction.Destination)
after_ether token.Host = More (partial.Value (head.Ether None))
after_ether token.Proto = More (partial.Value head.EtherProto)
after_ether token.Broadcast = made ethernet_broadcast
after_ether token.Multicast = made ethernet_multicast
after_ether token.OpenBracket = More (partial.Bracket layer.Ether)
after_ether _ = Foreign

-- the words after a direction
abbrev pub after_any : Direction → Token → Progress
after_any d token.Host = More (partial.Value (head.Host None (Some d)))
after_any d token.Net = More (partial.Value (head.Net None (Some d)))
after_any d token.Port = More (partial.Value (head.Port None (Some d)))
after_any d token.PortRange = More (partial.Value (head.PortRange None (Some d)))
after_any d w = valued (head.Host None (Some d)) w

abbrev pub after_of_network : Network → Direction → Token → Progress
after_of_network n d token.Host = More (partial.Value (head.Host (Some n) (Some d)))
after_of_network n d token.Net = More (partial.Value (head.Net (Some n) (Some d)))
after_of_network n d w = valued (head.Host (Some n) (Some d)) w

abbrev pub after_of_transport : Transport → Direction → Token → Progress
after_of_transport t d token.Port = More (partial.Value (head.Port (Some t) (Some d)))
after_of_transport t d token.PortRange = More (partial.Value (head.PortRange (Some t) (Some d)))
after_of_transport t d _ = Foreign

abbrev pub after_of_ether : Direction → Token → Progress
after_of_ether d token.Host = More (partial.Value (head.Ether (Some d)))
after_of_ether d w = valued (head.Ether (Some d)) w

abbrev pub after_scope : Scope → Direction → Token → Progress
after_scope scope.Any d w = after_any d w
after_scope (scope.Network n) d w = after_of_network n d w
after_scope (scope.Transport t) d w = after_of_transport t d w
after_scope scope.Ether d w = after_of_ether d w

-- `src` can go on with `or dst` and `and dst`
abbrev pub after_source : Scope → Direction → Joiner → Progress
after_source s direction.Source o = More (partial.Joined s o)
after_source s d o = Foreign

abbrev pub after_direction : Scope → Direction → Token → Progress
after_direction s d (token.Operator o) = after_source s d o
after_direction s d w = after_scope s d w

abbrev pub joined : Joiner → Direction
joined Or = direction.Either
joined And = direction.Both

abbrev pub after_joined : Scope → Joiner → Token → Progress
after_joined s o token.Destination = More (partial.Directed s (joined o))
after_joined s o _ = Foreign

-- a number where one ends a mask or a comparison
abbrev pub given : Use → ℕ → Progress
given (Masking q) k = More (partial.Term q (Some k))
given (Limit q mask r) k = made (says.Compare q mask r k)

abbrev pub after_bracket : Layer → Token → Progress
after_bracket l (token.Number place) = More (partial.Placed l place One)
after_bracket l (token.Place place size) = More (partial.Placed l place size)
after_bracket l _ = Foreign

abbrev pub after_placed : Layer → ℕ → Size → Token → Progress
after_placed l place size token.CloseBracket =
    More (partial.Term (quantity.Load l place size) None)
after_placed l place size _ = Foreign

abbrev pub after_and : Quantity → Option ℕ → Progress
after_and q None = More (partial.Constant (Masking q))
after_and q (Some mask) = Foreign

abbrev pub after_term : Quantity → Option ℕ → Token → Progress
after_term q mask token.BitAnd = after_and q mask
after_term q mask (token.Relation r) = More (partial.Constant (Limit q mask r))
after_term q mask _ = Foreign

abbrev pub after_use : Use → Token → Progress
after_use u (token.Number k) = given u k
after_use u token.Open = More (partial.Opened u)
after_use u _ = Foreign

abbrev pub after_opened : Use → Token → Progress
after_opened u (token.Number k) = More (partial.Listed u k)
after_opened u _ = Foreign

abbrev pub after_listed : Use → ℕ → Token → Progress
after_listed u bits token.BitOr = More (partial.Bar u bits)
after_listed u bits token.Close = given u bits
after_listed u bits _ = Foreign

abbrev pub after_bar : Use → ℕ → Token → Progress
after_bar u bits (token.Number k) = More (partial.Listed u (bit_or bits k))
after_bar u bits _ = Foreign

abbrev pub after_first : Token → Progress
after_first token.Fragment = made says.FirstFragment
after_first _ = Foreign

abbrev pub after_checksum : Token → Progress
after_checksum token.Wrong = made says.WrongChecksum
after_checksum _ = Foreign

abbrev pub after_less : Token → Progress
after_less (token.Number k) = made (says.Compare quantity.Length None relation.LessOrEqual k)
after_less _ = Foreign

abbrev pub after_greater : Token → Progress
after_greater (token.Number k) =
    made (says.Compare quantity.Length None relation.GreaterOrEqual k)
after_greater _ = Foreign

-- a further word
abbrev pub next : Partial → Token → Progress
next (partial.Word first) w = after_word first w
next partial.Ether w = after_ether w
next (partial.Directed s d) w = after_direction s d w
next (partial.Joined s o) w = after_joined s o w
next (partial.Value h) w = valued h w
next partial.Less w = after_less w
next partial.Greater w = after_greater w
next partial.First w = after_first w
next partial.Checksum w = after_checksum w
next (partial.Bracket l) w = after_bracket l w
next (partial.Placed l place size) w = after_placed l place size w
next (partial.Term q mask) w = after_term q mask w
next (partial.Constant u) w = after_use u w
next (partial.Opened u) w = after_opened u w
next (partial.Listed u bits) w = after_listed u bits w
next (partial.Bar u bits) w = after_bar u bits w

-- what a primitive is that is complete though it could go on
abbrev pub whole : Partial → Option Primitive
whole (partial.Word w) = alone w
whole _ = None

-- ---- networks

-- an address after `net`, or its first octets, if it is of a version that the protocol has
abbrev pub if_fits : Bool → NetAddress → Option NetAddress
if_fits is a = if is then Some a else None

-- the address of a network, which a mask can follow
abbrev pub net_address_of : Token → Option Head → Option NetAddress
net_address_of (token.Address (V4 a)) (Some (head.Net n d)) =
    if_fits (fits n (V4 a)) (record { network = n; direction = d; address = a; bits = 32 })
net_address_of (token.Front a bits) (Some (head.Net n d)) =
    if_fits (fits n (V4 a)) (record { network = n; direction = d; address = a; bits = bits })
net_address_of _ _ = None

-- its head, and what it says without a mask
abbrev pub head_of_net : NetAddress → Head
head_of_net a = head.Net a.network a.direction

abbrev pub primitive_of_net : NetAddress → Primitive
primitive_of_net a = says.Net a.network a.direction (V4 a.address) a.bits

-- what it says with one
abbrev pub with_mask : NetAddress → Token → Progress
with_mask a w =
    found (head_of_net a) (masked_value_of (head_of_net a) (Some a.address) (ipv4_of w))

-- ---- expressions

pub record State : Type 0 where
  pub doing : Doing
  pub waiting : List Waiting
  pub steps : List Step

abbrev pub state_of : Machine → State
state_of m = record { doing = m.doing; waiting = m.waiting; steps = m.steps.items }

abbrev pub start : State
start = record { doing = Operand first_head false; waiting = []; steps = [] }

-- how many words the state stands for at least
abbrev pub partial_size : Doing → ℕ
partial_size (Operand h only) = 0
partial_size (Within p) = 1
partial_size (Net a) = 1
partial_size (Mask a) = 1
partial_size (Operator c h) = 0

abbrev pub size_of : State → ℕ
size_of s = partial_size s.doing + length s.waiting + length s.steps

-- how many words wait or are read
abbrev pub kept : State → ℕ
kept s = length s.waiting + length s.steps

-- a parenthesis waits first
abbrev pub is_open : List Waiting → Bool
is_open [] = false
is_open (waiting.Open h only ∷ ws) = true
is_open (waiting.Not ∷ ws) = false
is_open (waiting.Head ∷ ws) = false
is_open (waiting.Operator o ∷ ws) = false

-- whether values alone are what stands within it
abbrev pub is_only : List Waiting → Bool
is_only (waiting.Open h only ∷ ws) = only
is_only _ = false

-- an operand is complete
abbrev pub complete : Head → List Waiting → List Step → State
complete h [] out = record { doing = Operator None h; waiting = []; steps = out }
complete h (waiting.Open g only ∷ ws) out =
    record { doing = Operator None h; waiting = waiting.Open g only ∷ ws; steps = out }
complete h (waiting.Not ∷ ws) out = complete h ws (out ++ step.Not ∷ [])
complete h (waiting.Head ∷ ws) out = complete h ws out
complete h (waiting.Operator o ∷ ws) out =
    record { doing = Operator (Some o) h; waiting = ws; steps = out ++ step.Operator o ∷ [] }

-- a primitive is complete
abbrev pub put : Primitive → Head → List Waiting → List Step → State
put p h ws out = complete h ws (out ++ step.Test p ∷ [])

abbrev pub on_progress : Progress → List Waiting → List Step → Option State
on_progress (More p) ws out = Some (record { doing = Within p; waiting = ws; steps = out })
on_progress (Done p h) ws out = Some (put p h ws out)
on_progress Foreign ws out = None

abbrev pub waits : Waiting → Head → Bool → List Waiting → List Step → Option State
waits w h only ws out = Some (record { doing = Operand h only; waiting = w ∷ ws; steps = out })

-- a word that begins no primitive can be a value
abbrev pub or_value : Head → Token → Progress → Progress
or_value h w (More p) = More p
or_value h w (Done p after) = Done p after
or_value h w Foreign = valued h w

abbrev pub chosen : Bool → Head → Token → Progress
chosen true h w = valued h w
chosen false h w = or_value h w (begin w)

-- a word after which an operand is still to come
abbrev pub waiting_of : Head → Bool → Token → Option Waiting
waiting_of h only token.Not = Some waiting.Not
waiting_of h only token.Open = Some (waiting.Open h only)
waiting_of h only _ = None

-- the address of a network, or any other word
abbrev pub begun_at : Option NetAddress → Progress → List Waiting → List Step → Option State
begun_at (Some a) y ws out = Some (record { doing = Net a; waiting = ws; steps = out })
begun_at None y ws out = on_progress y ws out

abbrev pub operand_at : Option Waiting → Head → Bool → Token → List Waiting → List Step
    → Option State
operand_at (Some x) h only w ws out = waits x h only ws out
operand_at None h only w ws out = begun_at (net_address_of w (Some h)) (chosen only h w) ws out

abbrev pub step_operand : Head → Bool → Token → List Waiting → List Step → Option State
step_operand h only w ws out = operand_at (waiting_of h only w) h only w ws out

abbrev pub close : List Waiting → List Step → Option State
close (waiting.Open h only ∷ ws) out = Some (complete h ws out)
close _ out = None

abbrev pub step_operator : Option Joiner → Head → Token → List Waiting → List Step → Option State
step_operator None h (token.Operator o) ws out = waits (waiting.Operator o) h (is_only ws) ws out
step_operator (Some And) h (token.Operator And) ws out =
    waits (waiting.Operator And) h (is_only ws) ws out
step_operator (Some Or) h (token.Operator Or) ws out =
    waits (waiting.Operator Or) h (is_only ws) ws out
step_operator before h token.Close ws out = close ws out
step_operator before h _ ws out = None

-- an operator, where one may come
abbrev pub after_doing : Doing → Token → List Waiting → List Step → Option State
after_doing (Operand h only) w ws out = None
after_doing (Within p) w ws out = None
after_doing (Net a) w ws out = None
after_doing (Mask a) w ws out = None
after_doing (Operator c h) w ws out = step_operator c h w ws out

abbrev pub after : Token → State → Option State
after w s = after_doing s.doing w s.waiting s.steps

-- the primitive is complete
abbrev pub completed : Option Primitive → List Waiting → List Step → Option State
completed None ws out = None
completed (Some p) ws out = Some (put p first_head ws out)

-- a word that does not belong to the primitive comes after it
abbrev pub step_progress : Progress → Option Primitive → Token → List Waiting → List Step
    → Option State
step_progress (More p) a w ws out =
    Some (record { doing = Within p; waiting = ws; steps = out })
step_progress (Done p h) a w ws out = Some (put p h ws out)
step_progress Foreign a w ws out = and_then (completed a ws out) (after w)

-- a parenthesis round a term
abbrev pub closes_term : Partial → Token → List Waiting → Bool
closes_term (partial.Term q mask) token.Close (waiting.Open h only ∷ ws) = true
closes_term _ _ _ = false

abbrev pub tail_of : List Waiting → List Waiting
tail_of [] = []
tail_of (w ∷ ws) = ws

-- the head whose value is to follow
abbrev pub scope_head : Scope → Direction → Option Head
scope_head scope.Any d = Some (head.Host None (Some d))
scope_head (scope.Network n) d = Some (head.Host (Some n) (Some d))
scope_head (scope.Transport t) d = None
scope_head scope.Ether d = Some (head.Ether (Some d))

abbrev pub head_of : Partial → Option Head
head_of (partial.Value h) = Some h
head_of (partial.Directed s d) = scope_head s d
head_of _ = None

-- `not` or a parenthesis after a head: the head of the values, and what waits for them
abbrev pub values_after : Token → Option Head → Option (Head × Waiting)
values_after token.Not (Some h) = Some (h, waiting.Not)
values_after token.Open (Some h) = Some (h, waiting.Open h true)
values_after _ _ = None

-- so is the address of a network
abbrev pub net_at : Option NetAddress → Partial → Token → List Waiting → List Step → Option State
net_at (Some a) p w ws out =
    Some (record { doing = Net a; waiting = waiting.Head ∷ ws; steps = out })
net_at None p w ws out = step_progress (next p w) (whole p) w ws out

abbrev pub within_at : Option (Head × Waiting) → Partial → Token → List Waiting → List Step
    → Option State
within_at (Some x) p w ws out = waits x.1 x.0 true (waiting.Head ∷ ws) out
within_at None p w ws out = net_at (net_address_of w (head_of p)) p w ws out

abbrev pub step_within : Partial → Token → List Waiting → List Step → Option State
step_within p w ws out = if closes_term p w ws
    then Some (record { doing = Within p; waiting = tail_of ws; steps = out })
    else within_at (values_after w (head_of p)) p w ws out

-- such an address without a mask is complete
abbrev pub put_net : NetAddress → List Waiting → List Step → State
put_net a ws out = put (primitive_of_net a) (head_of_net a) ws out

abbrev pub step_net : NetAddress → Token → List Waiting → List Step → Option State
step_net a token.Mask ws out = Some (record { doing = Mask a; waiting = ws; steps = out })
step_net a w ws out = after w (put_net a ws out)

abbrev pub step_state : Doing → Token → List Waiting → List Step → Option State
step_state (Operand h only) w ws out = step_operand h only w ws out
step_state (Within p) w ws out = step_within p w ws out
step_state (Net a) w ws out = step_net a w ws out
step_state (Mask a) w ws out = on_progress (with_mask a w) ws out
step_state (Operator c h) w ws out = step_operator c h w ws out

abbrev pub step_of : State → Token → Option State
step_of s w = step_state s.doing w s.waiting s.steps

-- the steps of an expression that is complete
abbrev pub finish_at : Doing → List Waiting → List Step → Option (List Step)
finish_at (Operator c h) [] out = Some out
finish_at (Operator c h) (w ∷ ws) out = None
finish_at (Operand h only) ws out = None
finish_at (Within p) ws out = None
finish_at (Net a) ws out = None
finish_at (Mask a) ws out = None

abbrev pub finish_state : State → Option (List Step)
finish_state s = finish_at s.doing s.waiting s.steps

abbrev pub finish_doing : Doing → List Waiting → List Step → Option (List Step)
finish_doing (Operand h only) ws out = None
finish_doing (Within p) ws out = and_then (completed (whole p) ws out) finish_state
finish_doing (Net a) ws out = finish_state (put_net a ws out)
finish_doing (Mask a) ws out = None
finish_doing (Operator c h) ws out = finish_at (Operator c h) ws out

abbrev pub finish : State → Option (List Step)
finish s = finish_doing s.doing s.waiting s.steps

-- the steps that the words leave, from a state
abbrev pub outcome : List Token → State → Option (List Step)
outcome [] s = finish s
outcome (w ∷ words) s = and_then (step_of s w) (outcome words)

-- ---- refusals

-- a primitive that can be complete is
abbrev pub settled_at : Option Primitive → Partial → List Waiting → List Step → State
settled_at (Some a) p ws out = put a first_head ws out
settled_at None p ws out = record { doing = Within p; waiting = ws; steps = out }

abbrev pub settled_doing : Doing → List Waiting → List Step → State
settled_doing (Operand h only) ws out =
    record { doing = Operand h only; waiting = ws; steps = out }
settled_doing (Within p) ws out = settled_at (whole p) p ws out
settled_doing (Net a) ws out = put_net a ws out
settled_doing (Mask a) ws out = record { doing = Mask a; waiting = ws; steps = out }
settled_doing (Operator c h) ws out =
    record { doing = Operator c h; waiting = ws; steps = out }

-- what a word that cannot stand there leaves, and the end of a text that is no expression
abbrev pub settled : State → State
settled s = settled_doing s.doing s.waiting s.steps

-- the version of the addresses that a protocol is asked for
abbrev pub version_of : Option Network → Option Version
version_of None = None
version_of (Some (network.Ip v)) = Some v
version_of (Some network.Arp) = Some Ipv4
version_of (Some network.Rarp) = Some Ipv4

-- a value of a head
abbrev pub expected_value : Head → Expected
expected_value (head.Host n d) = expected.Address (version_of n)
expected_value (head.Net n d) = expected.Network (version_of n)
expected_value (head.Port t d) = expected.Port
expected_value (head.PortRange t d) = expected.PortRange
expected_value (head.Proto v) = expected.Protocol
expected_value (head.Ether d) = expected.EthernetAddress
expected_value head.EtherProto = expected.EtherType

-- what a direction is of
abbrev pub expected_after : Scope → Expected
expected_after scope.Any = expected.AfterDirection
expected_after (scope.Network n) = expected.Address (version_of (Some n))
expected_after (scope.Transport t) = expected.AfterTransportDirection
expected_after scope.Ether = expected.EthernetAddress

-- the rest of a primitive that is not complete; one that is a word by itself is
abbrev pub expected_within : Partial → Expected
expected_within (partial.Word w) = expected.Operand
expected_within partial.Ether = expected.AfterEther
expected_within (partial.Directed s d) = expected_after s
expected_within (partial.Joined s o) = expected.Destination
expected_within (partial.Value h) = expected_value h
expected_within partial.Less = expected.Number
expected_within partial.Greater = expected.Number
expected_within partial.First = expected.Fragment
expected_within partial.Checksum = expected.Wrong
expected_within (partial.Bracket l) = expected.Place
expected_within (partial.Placed l place size) = expected.CloseBracket
expected_within (partial.Term q mask) = expected.Relation
expected_within (partial.Constant u) = expected.Number
expected_within (partial.Opened u) = expected.Number
expected_within (partial.Listed u bits) = expected.Bits
expected_within (partial.Bar u bits) = expected.Number

-- what can stand next; an address without a mask is complete
abbrev pub expected_doing : Doing → List Waiting → Expected
expected_doing (Operand h only) ws = if only then expected_value h else expected.Operand
expected_doing (Within p) ws = expected_within p
expected_doing (Net a) ws = expected.AfterAddress
expected_doing (Mask a) ws = expected.Mask
expected_doing (Operator c h) ws = expected.Operator c (is_open ws)

abbrev pub expected_of : State → Expected
expected_of s = expected_doing s.doing s.waiting

-- what can follow a word that is a primitive by itself, if more than an operator can
abbrev pub qualifiers_of : Partial → Option Expected
qualifiers_of (partial.Word (token.Network (network.Ip v))) = Some expected.AfterIp
qualifiers_of (partial.Word (token.Network n)) = Some expected.AfterNetwork
qualifiers_of (partial.Word (token.Transport t)) = Some expected.AfterTransport
qualifiers_of (partial.Word token.Vlan) = Some expected.AfterVlan
qualifiers_of _ = None

-- and the address of a network
abbrev pub qualifiers_doing : Doing → Option Expected
qualifiers_doing (Within p) = qualifiers_of p
qualifiers_doing (Net a) = Some expected.AfterAddress
qualifiers_doing (Mask a) = None
qualifiers_doing (Operand h only) = None
qualifiers_doing (Operator c h) = None

-- the operator that stands before on the same level
abbrev pub level_of : Doing → Option Joiner
level_of (Operator c h) = c
level_of (Operand h only) = None
level_of (Within p) = None
level_of (Net a) = None
level_of (Mask a) = None

-- Why a word cannot stand at a place, by what it says, by the operator before it on its level, and
-- by what can stand there.
abbrev pub refusal : ℕ → Token → Option Joiner → Expected → FilterError
refusal place token.Foreign c e = error.Unsupported place
refusal place (token.Operator o) (Some c) e = error.Mixed place o
refusal place w c e = error.Unexpected place e
