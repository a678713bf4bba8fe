-- Each expression of the grammar is read, to its steps.
use Rattle.std.proofs.Common.{◌≡◌, ℕ, Bool, true, false, ◌&&◌, cond, List, [], ◌∷◌, ◌++◌, Option, Some, None, refl, sym, ap, ◌∙◌, subst, append_assoc}
use Rattle.std.proofs.lemmas.Bool.{le-leb}
use Rattle.std.proofs.lemmas.List.{append-nil}
use Rattle.packet_filter.specs.Meaning.{Expression, one, negation, compound}
use Rattle.packet_filter.specs.Program.{and_then}
use Rattle.packet_filter.specs.Grammar.{IsHead, host, directed, net, port, portrange, proto, ether_host, ether_directed, ether_proto, IsPrimitive, word, vlan, less, greater, ether_broadcast, ether_multicast, multicast, first_fragment, checksum_wrong, comparison, AreBits, single, with, IsConstant, number, list, IsTerm, len, load, masked_, grouped, Kind, operand, chain, Reads, primitive, headed, value, masked_value, not_, parentheses, first, more, IsExpression, direction_words, first_head, fits, provided, value_of, ipv4_of, masked_value_of, alone, layer_of, loads_at}
use Rattle.packet_filter.specs.Private.Machine.{State, begun_at, chosen, complete, put, put_net, found, after_word, head_of_net, if_fits, net_address_of, net_at, outcome, finish, finish_state, after, primitive_of_net, step_of, step_progress, on_progress, completed, is_only, start}
use Rattle.packet_filter.specs.declared.address.Address.{Address}
use Rattle.packet_filter.specs.declared.address.Address.TheVariants.{V4, V6}
use Rattle.packet_filter.specs.declared.expression.Direction.{Direction}
use Rattle.packet_filter.specs.declared.expression.Direction.TheVariants as direction
use Rattle.packet_filter.specs.declared.expression.Layer.{Layer}
use Rattle.packet_filter.specs.declared.expression.Network.{Network}
use Rattle.packet_filter.specs.declared.expression.Operator.{Operator as Joiner}
use Rattle.packet_filter.specs.declared.expression.Operator.TheVariants.{And, Or}
use Rattle.packet_filter.specs.declared.expression.Primitive.{Primitive}
use Rattle.packet_filter.specs.declared.expression.Primitive.TheVariants as says
use Rattle.packet_filter.specs.declared.expression.Quantity.{Quantity}
use Rattle.packet_filter.specs.declared.expression.Quantity.TheVariants as quantity
use Rattle.packet_filter.specs.declared.expression.Size.{Size}
use Rattle.packet_filter.specs.declared.filter.Step.{Step}
use Rattle.packet_filter.specs.declared.filter.Step.TheVariants as step
use Rattle.packet_filter.specs.declared.head.Head.{Head}
use Rattle.packet_filter.specs.declared.head.Head.TheVariants as head
use Rattle.packet_filter.specs.declared.machine.Doing.TheVariants.{Net, Operand, Within, Operator}
use Rattle.packet_filter.specs.declared.machine.Waiting.{Waiting}
use Rattle.packet_filter.specs.declared.machine.Waiting.TheVariants as waiting
use Rattle.packet_filter.specs.declared.partial.NetAddress.{NetAddress}
use Rattle.packet_filter.specs.declared.partial.Partial.{Partial}
use Rattle.packet_filter.specs.declared.partial.Partial.TheVariants as partial
use Rattle.packet_filter.specs.declared.partial.Progress.{Progress}
use Rattle.packet_filter.specs.declared.partial.Progress.TheVariants.{Done, Foreign}
use Rattle.packet_filter.specs.declared.partial.Scope.{Scope}
use Rattle.packet_filter.specs.declared.partial.Scope.TheVariants as scope
use Rattle.packet_filter.specs.declared.partial.Use.{Use}
use Rattle.packet_filter.specs.declared.partial.Use.TheVariants.{Limit, Masking}
use Rattle.packet_filter.specs.declared.token.Token.{Token}
use Rattle.packet_filter.specs.declared.token.Token.TheVariants as token

-- an expression in postfix form
abbrev pub postfix : Expression → List Step
postfix (one p) = step.Test p ∷ []
postfix (negation e) = postfix e ++ step.Not ∷ []
postfix (compound o a b) = postfix a ++ (postfix b ++ step.Operator o ∷ [])

abbrev pub expects : Head → Bool → List Waiting → List Step → State
expects h only ws out = record { doing = Operand h only; waiting = ws; steps = out }

abbrev pub amid : Partial → List Waiting → List Step → State
amid p ws out = record { doing = Within p; waiting = ws; steps = out }

abbrev pub has_read : Option Joiner → Head → List Waiting → List Step → State
has_read c h ws out = record { doing = Operator c h; waiting = ws; steps = out }

pub some_same : {A : Type 0} (x y : A) → Some x ≡ Some y → x ≡ y
some_same x y h = cc

-- no operator waits
abbrev pub IsBase : List Waiting → Type 0
IsBase [] = Unit {0}
IsBase (waiting.Open h only ∷ ws) = Unit {0}
IsBase (waiting.Not ∷ ws) = ⊥
IsBase (waiting.Head ∷ ws) = ⊥
IsBase (waiting.Operator o ∷ ws) = ⊥

-- the words can follow an operand
abbrev pub EndsOperand : List Token → Type 0
EndsOperand [] = Unit {0}
EndsOperand (token.Operator o ∷ words) = Unit {0}
EndsOperand (token.Close ∷ words) = Unit {0}
EndsOperand _ = ⊥

-- a complete operand is gone on after, and ends, as any
pub after_complete : (h : Head) (ws : List Waiting) (out : List Step) (w : Token) → after w (complete h ws out) ≡ step_of (complete h ws out) w
after_complete h [] out w = refl
after_complete h (waiting.Open g only ∷ ws) out w = refl
after_complete h (waiting.Not ∷ ws) out w = after_complete h ws (out ++ step.Not ∷ []) w
after_complete h (waiting.Head ∷ ws) out w = after_complete h ws out w
after_complete h (waiting.Operator o ∷ ws) out w = refl

finish_complete : (h : Head) (ws : List Waiting) (out : List Step) → finish_state (complete h ws out) ≡ finish (complete h ws out)
finish_complete h [] out = refl
finish_complete h (waiting.Open g only ∷ ws) out = refl
finish_complete h (waiting.Not ∷ ws) out = finish_complete h ws (out ++ step.Not ∷ [])
finish_complete h (waiting.Head ∷ ws) out = finish_complete h ws out
finish_complete h (waiting.Operator o ∷ ws) out = refl

-- ---- addresses of networks

abbrev pub has_net : NetAddress → List Waiting → List Step → State
has_net a ws out = record { doing = Net a; waiting = ws; steps = out }

provided_some : (b : Bool) (p q : Primitive) → provided b p ≡ Some q → (b ≡ true) × (p ≡ q)
provided_some true p q e = (refl, some_same p q e)
provided_some false p q e = cc

left_true : (b c : Bool) → (b && c) ≡ true → b ≡ true
left_true true c e = refl
left_true false c e = cc

pub not_some : {A : Type 0} (x : A) → None ≡ Some x → ⊥
not_some x e = cc

pub not_true : false ≡ true → ⊥
not_true e = cc

-- an address without a mask ends before a word that can follow an operand
pub net_ends : (a : NetAddress) (ws : List Waiting) (out : List Step) (rest : List Token) → EndsOperand rest → outcome rest (has_net a ws out) ≡ outcome rest (put_net a ws out)
net_ends a ws out [] k = finish_complete (head_of_net a) ws (out ++ step.Test (primitive_of_net a) ∷ [])
net_ends a ws out (token.Operator o ∷ rest) k = ap (λ x. and_then x (outcome rest)) (after_complete (head_of_net a) ws (out ++ step.Test (primitive_of_net a) ∷ []) (token.Operator o))
net_ends a ws out (token.Close ∷ rest) k = ap (λ x. and_then x (outcome rest)) (after_complete (head_of_net a) ws (out ++ step.Test (primitive_of_net a) ∷ []) token.Close)
net_ends a ws out (_ ∷ rest) k = absurd k

-- where one is begun, after a head and alone
net_alone : (b : Bool) (a : NetAddress) (y : Progress) (p : Primitive) (ws : List Waiting) (out : List Step) (rest : List Token) → EndsOperand rest → provided b (primitive_of_net a) ≡ Some p → and_then (begun_at (if_fits b a) y ws out) (outcome rest) ≡ outcome rest (put p (head_of_net a) ws out)
net_alone b a y p ws out rest k e =
    let x = provided_some b _ p e in
    ap (λ c. and_then (begun_at (if_fits c a) y ws out) (outcome rest)) x.0 ∙ net_ends a ws out rest k ∙ ap (λ q. outcome rest (put q (head_of_net a) ws out)) x.1

net_after_head : (b : Bool) (a : NetAddress) (q : Partial) (w : Token) (p : Primitive) (ws : List Waiting) (out : List Step) (rest : List Token) → EndsOperand rest → provided b (primitive_of_net a) ≡ Some p → and_then (net_at (if_fits b a) q w ws out) (outcome rest) ≡ outcome rest (put p (head_of_net a) ws out)
net_after_head b a q w p ws out rest k e =
    let x = provided_some b _ p e in
    ap (λ c. and_then (net_at (if_fits c a) q w ws out) (outcome rest)) x.0 ∙ net_ends a (waiting.Head ∷ ws) out rest k ∙ ap (λ r. outcome rest (put r (head_of_net a) ws out)) x.1

-- the mask after it
mask_read : (a : NetAddress) (m : Token) (p : Primitive) → masked_value_of (head_of_net a) (Some a.address) (ipv4_of m) ≡ Some p → (ws : List Waiting) (out : List Step) (rest : List Token) → outcome (token.Mask ∷ m ∷ rest) (has_net a ws out) ≡ outcome rest (put p (head_of_net a) ws out)
mask_read a m p e ws out rest = ap (λ o. and_then (on_progress (found (head_of_net a) o) ws out) (outcome rest)) e

fits_mask : (n : Option Network) (d : Option Direction) (a : ℕ) (o : Option ℕ) (p : Primitive) → masked_value_of (head.Net n d) (Some a) o ≡ Some p → fits n (V4 a) ≡ true
fits_mask n d a (Some mask) p e = left_true _ _ (provided_some _ _ p e).0
fits_mask n d a None p e = cc

abbrev net_of : Option Network → Option Direction → ℕ → ℕ → NetAddress
net_of n d a bits = record { network = n; direction = d; address = a; bits = bits }

mask_alone : (n : Option Network) (d : Option Direction) (a bits : ℕ) (y : Progress) (m : Token) (p : Primitive) → masked_value_of (head.Net n d) (Some a) (ipv4_of m) ≡ Some p → (ws : List Waiting) (out : List Step) (rest : List Token) → and_then (begun_at (if_fits (fits n (V4 a)) (net_of n d a bits)) y ws out) (outcome (token.Mask ∷ m ∷ rest)) ≡ outcome rest (put p (head.Net n d) ws out)
mask_alone n d a bits y m p e ws out rest =
    ap (λ c. and_then (begun_at (if_fits c (net_of n d a bits)) y ws out) (outcome (token.Mask ∷ m ∷ rest))) (fits_mask n d a (ipv4_of m) p e)
    ∙ mask_read (net_of n d a bits) m p e ws out rest

mask_after_head : (n : Option Network) (d : Option Direction) (a bits : ℕ) (q : Partial) (w m : Token) (p : Primitive) → masked_value_of (head.Net n d) (Some a) (ipv4_of m) ≡ Some p → (ws : List Waiting) (out : List Step) (rest : List Token) → and_then (net_at (if_fits (fits n (V4 a)) (net_of n d a bits)) q w ws out) (outcome (token.Mask ∷ m ∷ rest)) ≡ outcome rest (put p (head.Net n d) ws out)
mask_after_head n d a bits q w m p e ws out rest =
    ap (λ c. and_then (net_at (if_fits c (net_of n d a bits)) q w ws out) (outcome (token.Mask ∷ m ∷ rest))) (fits_mask n d a (ipv4_of m) p e)
    ∙ mask_read (net_of n d a bits) m p e (waiting.Head ∷ ws) out rest

-- ---- heads

-- where a direction can stand
abbrev at_scope : Scope → Head → List Waiting → List Step → State
at_scope scope.Any g ws out = expects g false ws out
at_scope (scope.Network n) g ws out = amid (partial.Word (token.Network n)) ws out
at_scope (scope.Transport t) g ws out = amid (partial.Word (token.Transport t)) ws out
at_scope scope.Ether g ws out = amid partial.Ether ws out

source_read : (s : Scope) (g : Head) (ws : List Waiting) (out : List Step) (rest : List Token) → outcome (token.Source ∷ rest) (at_scope s g ws out) ≡ outcome rest (amid (partial.Directed s direction.Source) ws out)
source_read scope.Any g ws out rest = refl
source_read (scope.Network n) g ws out rest = refl
source_read (scope.Transport t) g ws out rest = refl
source_read scope.Ether g ws out rest = refl

destination_read : (s : Scope) (g : Head) (ws : List Waiting) (out : List Step) (rest : List Token) → outcome (token.Destination ∷ rest) (at_scope s g ws out) ≡ outcome rest (amid (partial.Directed s direction.Destination) ws out)
destination_read scope.Any g ws out rest = refl
destination_read (scope.Network n) g ws out rest = refl
destination_read (scope.Transport t) g ws out rest = refl
destination_read scope.Ether g ws out rest = refl

direction_read : (d : Direction) (s : Scope) (g : Head) (ws : List Waiting) (out : List Step) (rest : List Token) → outcome (direction_words (Some d) ++ rest) (at_scope s g ws out) ≡ outcome rest (amid (partial.Directed s d) ws out)
direction_read direction.Source s g ws out rest = source_read s g ws out rest
direction_read direction.Destination s g ws out rest = destination_read s g ws out rest
direction_read direction.Either s g ws out rest = source_read s g ws out (token.Operator Or ∷ token.Destination ∷ rest)
direction_read direction.Both s g ws out rest = source_read s g ws out (token.Operator And ∷ token.Destination ∷ rest)

-- a direction, and the word after it
then_read : (d : Direction) (k : Token) (s : Scope) (g : Head) (ws : List Waiting) (out : List Step) (rest : List Token) → outcome ((direction_words (Some d) ++ k ∷ []) ++ rest) (at_scope s g ws out) ≡ outcome (k ∷ rest) (amid (partial.Directed s d) ws out)
then_read d k s g ws out rest = ap (λ l. outcome l (at_scope s g ws out)) (append_assoc (direction_words (Some d)) (k ∷ []) rest) ∙ direction_read d s g ws out (k ∷ rest)

-- which words are addresses
host_value : (w : Token) (n : Option Network) (d : Option Direction) (p : Primitive) → value_of w (head.Host n d) ≡ Some p → (a : Address) × (w ≡ token.Address a)
host_value (token.Address a) n d p e = (a, refl)
host_value _ n d p e = absurd (not_some p e)

ether_value : (w : Token) (d : Option Direction) (p : Primitive) → value_of w (head.Ether d) ≡ Some p → (a : List ℕ) × (w ≡ token.Hardware a)
ether_value (token.Hardware a) d p e = (a, refl)
ether_value _ d p e = absurd (not_some p e)

-- a primitive that has begun takes values with a head
pub record Takes (q : Partial) (h : Head) : Type 0 where
  pub value : (w : Token) (p : Primitive) → value_of w h ≡ Some p → (ws : List Waiting) (out : List Step) (rest : List Token) → EndsOperand rest → outcome (w ∷ rest) (amid q ws out) ≡ outcome rest (put p h ws out)
  pub masked : (w m : Token) (p : Primitive) → masked_value_of h (ipv4_of w) (ipv4_of m) ≡ Some p → (ws : List Waiting) (out : List Step) (rest : List Token) → outcome (w ∷ token.Mask ∷ m ∷ rest) (amid q ws out) ≡ outcome rest (put p h ws out)
  pub negation : (ws : List Waiting) (out : List Step) (rest : List Token) → outcome (token.Not ∷ rest) (amid q ws out) ≡ outcome rest (expects h true (waiting.Not ∷ waiting.Head ∷ ws) out)
  pub group : (ws : List Waiting) (out : List Step) (rest : List Token) → outcome (token.Open ∷ rest) (amid q ws out) ≡ outcome rest (expects h true (waiting.Open h true ∷ waiting.Head ∷ ws) out)

value_read : (h : Head) (w : Token) (p : Primitive) → value_of w h ≡ Some p → (ws : List Waiting) (out : List Step) (rest : List Token) → EndsOperand rest → outcome (w ∷ rest) (amid (partial.Value h) ws out) ≡ outcome rest (put p h ws out)
value_read (head.Net n d) (token.Address (V4 a)) p e ws out rest k = net_after_head (fits n (V4 a)) (net_of n d a 32) (partial.Value (head.Net n d)) (token.Address (V4 a)) p ws out rest k e
value_read (head.Net n d) (token.Front a bits) p e ws out rest k = net_after_head (fits n (V4 a)) (net_of n d a bits) (partial.Value (head.Net n d)) (token.Front a bits) p ws out rest k e
value_read (head.Host n d) (token.Address (V4 a)) p e ws out rest k = ap (λ o. and_then (step_progress (found (head.Host n d) o) None (token.Address (V4 a)) ws out) (outcome rest)) e
value_read h (token.Address (V6 a)) p e ws out rest k = ap (λ o. and_then (step_progress (found h o) None (token.Address (V6 a)) ws out) (outcome rest)) e
value_read h (token.Prefix a n) p e ws out rest k = ap (λ o. and_then (step_progress (found h o) None (token.Prefix a n) ws out) (outcome rest)) e
value_read h (token.Number n) p e ws out rest k = ap (λ o. and_then (step_progress (found h o) None (token.Number n) ws out) (outcome rest)) e
value_read h (token.Service n) p e ws out rest k = ap (λ o. and_then (step_progress (found h o) None (token.Service n) ws out) (outcome rest)) e
value_read h (token.Range l n) p e ws out rest k = ap (λ o. and_then (step_progress (found h o) None (token.Range l n) ws out) (outcome rest)) e
value_read h (token.IpNumber n) p e ws out rest k = ap (λ o. and_then (step_progress (found h o) None (token.IpNumber n) ws out) (outcome rest)) e
value_read h (token.Hardware a) p e ws out rest k = ap (λ o. and_then (step_progress (found h o) None (token.Hardware a) ws out) (outcome rest)) e
value_read h (token.TypeName n) p e ws out rest k = ap (λ o. and_then (step_progress (found h o) None (token.TypeName n) ws out) (outcome rest)) e
value_read h _ p e ws out rest k = absurd (not_some p e)

masked_read : (h : Head) (w m : Token) (p : Primitive) → masked_value_of h (ipv4_of w) (ipv4_of m) ≡ Some p → (ws : List Waiting) (out : List Step) (rest : List Token) → outcome (w ∷ token.Mask ∷ m ∷ rest) (amid (partial.Value h) ws out) ≡ outcome rest (put p h ws out)
masked_read (head.Net n d) (token.Address (V4 a)) m p e ws out rest = mask_after_head n d a 32 (partial.Value (head.Net n d)) (token.Address (V4 a)) m p e ws out rest
masked_read (head.Net n d) (token.Front a bits) m p e ws out rest = mask_after_head n d a bits (partial.Value (head.Net n d)) (token.Front a bits) m p e ws out rest
masked_read _ _ m p e ws out rest = absurd (not_some p e)

pub head_takes : (h : Head) → Takes (partial.Value h) h
head_takes h = record { value = value_read h; masked = masked_read h; negation = λ ws out rest. refl; group = λ ws out rest. refl }

-- an address after a direction
no_net : (a : Address) (n : Option Network) (d : Option Direction) → net_address_of (token.Address a) (Some (head.Host n d)) ≡ None
no_net (V4 a) n d = refl
no_net (V6 a) n d = refl

host_read : (s : Scope) (d : Direction) (n : Option Network) → ((a : Address) (o : Option Primitive) (ws : List Waiting) (out : List Step) (rest : List Token) → value_of (token.Address a) (head.Host n (Some d)) ≡ o → outcome (token.Address a ∷ rest) (amid (partial.Directed s d) ws out) ≡ and_then (step_progress (found (head.Host n (Some d)) o) None (token.Address a) ws out) (outcome rest)) → (w : Token) (p : Primitive) → value_of w (head.Host n (Some d)) ≡ Some p → (ws : List Waiting) (out : List Step) (rest : List Token) → EndsOperand rest → outcome (w ∷ rest) (amid (partial.Directed s d) ws out) ≡ outcome rest (put p (head.Host n (Some d)) ws out)
host_read s d n f w p e ws out rest k =
    let x = host_value w n (Some d) p e in
    subst (λ u. value_of u (head.Host n (Some d)) ≡ Some p → outcome (u ∷ rest) (amid (partial.Directed s d) ws out) ≡ outcome rest (put p (head.Host n (Some d)) ws out)) (sym x.1) (λ g. f x.0 (Some p) ws out rest g) e

pub any_takes : (d : Direction) → Takes (partial.Directed scope.Any d) (head.Host None (Some d))
any_takes d = record {
  value = host_read scope.Any d None (λ a o ws out rest e. ap (λ x. and_then (net_at x (partial.Directed scope.Any d) (token.Address a) ws out) (outcome rest)) (no_net a None (Some d)) ∙ ap (λ y. and_then (step_progress (found (head.Host None (Some d)) y) None (token.Address a) ws out) (outcome rest)) e);
  masked = λ w m p e ws out rest. absurd (not_some p e);
  negation = λ ws out rest. refl;
  group = λ ws out rest. refl;
}

pub network_takes : (n : Network) (d : Direction) → Takes (partial.Directed (scope.Network n) d) (head.Host (Some n) (Some d))
network_takes n d = record {
  value = host_read (scope.Network n) d (Some n) (λ a o ws out rest e. ap (λ x. and_then (net_at x (partial.Directed (scope.Network n) d) (token.Address a) ws out) (outcome rest)) (no_net a (Some n) (Some d)) ∙ ap (λ y. and_then (step_progress (found (head.Host (Some n) (Some d)) y) None (token.Address a) ws out) (outcome rest)) e);
  masked = λ w m p e ws out rest. absurd (not_some p e);
  negation = λ ws out rest. refl;
  group = λ ws out rest. refl;
}

station_read : (d : Direction) (w : Token) (p : Primitive) → value_of w (head.Ether (Some d)) ≡ Some p → (ws : List Waiting) (out : List Step) (rest : List Token) → EndsOperand rest → outcome (w ∷ rest) (amid (partial.Directed scope.Ether d) ws out) ≡ outcome rest (put p (head.Ether (Some d)) ws out)
station_read d w p e ws out rest k =
    let x = ether_value w (Some d) p e in
    subst (λ u. value_of u (head.Ether (Some d)) ≡ Some p → outcome (u ∷ rest) (amid (partial.Directed scope.Ether d) ws out) ≡ outcome rest (put p (head.Ether (Some d)) ws out)) (sym x.1) (λ f. ap (λ o. and_then (step_progress (found (head.Ether (Some d)) o) None (token.Hardware x.0) ws out) (outcome rest)) f) e

pub ether_takes : (d : Direction) → Takes (partial.Directed scope.Ether d) (head.Ether (Some d))
ether_takes d = record { value = station_read d; masked = λ w m p e ws out rest. absurd (not_some p e); negation = λ ws out rest. refl; group = λ ws out rest. refl }

-- the words of a head lead to a primitive that takes its values
record Leads (words : List Token) (h : Head) : Type 0 where
  to : Partial
  takes : Takes to h
  read : (g : Head) (ws : List Waiting) (out : List Step) (rest : List Token) → outcome (words ++ rest) (expects g false ws out) ≡ outcome rest (amid to ws out)

at_value : (words : List Token) (h : Head) → ((g : Head) (ws : List Waiting) (out : List Step) (rest : List Token) → outcome (words ++ rest) (expects g false ws out) ≡ outcome rest (amid (partial.Value h) ws out)) → Leads words h
at_value words h f = record { to = partial.Value h; takes = head_takes h; read = f }

head_read : (words : List Token) (h : Head) → IsHead words h → Leads words h
head_read words h (host None None) = at_value words h (λ g ws out rest. refl)
head_read words h (host None (Some d)) = at_value words h (λ g ws out rest. then_read d token.Host scope.Any g ws out rest)
head_read words h (host (Some n) None) = at_value words h (λ g ws out rest. refl)
head_read words h (host (Some n) (Some d)) = at_value words h (λ g ws out rest. then_read d token.Host (scope.Network n) g ws out rest)
head_read words h (net None None) = at_value words h (λ g ws out rest. refl)
head_read words h (net None (Some d)) = at_value words h (λ g ws out rest. then_read d token.Net scope.Any g ws out rest)
head_read words h (net (Some n) None) = at_value words h (λ g ws out rest. refl)
head_read words h (net (Some n) (Some d)) = at_value words h (λ g ws out rest. then_read d token.Net (scope.Network n) g ws out rest)
head_read words h (port None None) = at_value words h (λ g ws out rest. refl)
head_read words h (port None (Some d)) = at_value words h (λ g ws out rest. then_read d token.Port scope.Any g ws out rest)
head_read words h (port (Some t) None) = at_value words h (λ g ws out rest. refl)
head_read words h (port (Some t) (Some d)) = at_value words h (λ g ws out rest. then_read d token.Port (scope.Transport t) g ws out rest)
head_read words h (portrange None None) = at_value words h (λ g ws out rest. refl)
head_read words h (portrange None (Some d)) = at_value words h (λ g ws out rest. then_read d token.PortRange scope.Any g ws out rest)
head_read words h (portrange (Some t) None) = at_value words h (λ g ws out rest. refl)
head_read words h (portrange (Some t) (Some d)) = at_value words h (λ g ws out rest. then_read d token.PortRange (scope.Transport t) g ws out rest)
head_read words h (proto None) = at_value words h (λ g ws out rest. refl)
head_read words h (proto (Some v)) = at_value words h (λ g ws out rest. refl)
head_read words h (ether_host None) = at_value words h (λ g ws out rest. refl)
head_read words h (ether_host (Some d)) = at_value words h (λ g ws out rest. then_read d token.Host scope.Ether g ws out rest)
head_read words h ether_proto = at_value words h (λ g ws out rest. refl)
head_read words h (directed None d) = record { to = partial.Directed scope.Any d; takes = any_takes d; read = λ g ws out rest. direction_read d scope.Any g ws out rest }
head_read words h (directed (Some n) d) = record { to = partial.Directed (scope.Network n) d; takes = network_takes n d; read = λ g ws out rest. direction_read d (scope.Network n) g ws out rest }
head_read words h (ether_directed d) = record { to = partial.Directed scope.Ether d; takes = ether_takes d; read = λ g ws out rest. direction_read d scope.Ether g ws out rest }

-- a value alone begins nothing else
pub value_alone : (only : Bool) (w : Token) (h : Head) (p : Primitive) → value_of w h ≡ Some p → (ws : List Waiting) (out : List Step) (rest : List Token) → EndsOperand rest → outcome (w ∷ rest) (expects h only ws out) ≡ outcome rest (put p h ws out)
value_alone only (token.Address (V4 a)) (head.Net n d) p e ws out rest k = net_alone (fits n (V4 a)) (net_of n d a 32) (chosen only (head.Net n d) (token.Address (V4 a))) p ws out rest k e
value_alone only (token.Front a bits) (head.Net n d) p e ws out rest k = net_alone (fits n (V4 a)) (net_of n d a bits) (chosen only (head.Net n d) (token.Front a bits)) p ws out rest k e
value_alone true (token.Address (V4 a)) (head.Host n d) p e ws out rest k = ap (λ o. and_then (on_progress (found (head.Host n d) o) ws out) (outcome rest)) e
value_alone true (token.Address (V6 a)) h p e ws out rest k = ap (λ o. and_then (on_progress (found h o) ws out) (outcome rest)) e
value_alone true (token.Prefix a n) h p e ws out rest k = ap (λ o. and_then (on_progress (found h o) ws out) (outcome rest)) e
value_alone true (token.Number n) h p e ws out rest k = ap (λ o. and_then (on_progress (found h o) ws out) (outcome rest)) e
value_alone true (token.Service n) h p e ws out rest k = ap (λ o. and_then (on_progress (found h o) ws out) (outcome rest)) e
value_alone true (token.Range l n) h p e ws out rest k = ap (λ o. and_then (on_progress (found h o) ws out) (outcome rest)) e
value_alone true (token.IpNumber n) h p e ws out rest k = ap (λ o. and_then (on_progress (found h o) ws out) (outcome rest)) e
value_alone true (token.Hardware a) h p e ws out rest k = ap (λ o. and_then (on_progress (found h o) ws out) (outcome rest)) e
value_alone true (token.TypeName n) h p e ws out rest k = ap (λ o. and_then (on_progress (found h o) ws out) (outcome rest)) e
value_alone false (token.Address (V4 a)) (head.Host n d) p e ws out rest k = ap (λ o. and_then (on_progress (found (head.Host n d) o) ws out) (outcome rest)) e
value_alone false (token.Address (V6 a)) h p e ws out rest k = ap (λ o. and_then (on_progress (found h o) ws out) (outcome rest)) e
value_alone false (token.Prefix a n) h p e ws out rest k = ap (λ o. and_then (on_progress (found h o) ws out) (outcome rest)) e
value_alone false (token.Number n) h p e ws out rest k = ap (λ o. and_then (on_progress (found h o) ws out) (outcome rest)) e
value_alone false (token.Service n) h p e ws out rest k = ap (λ o. and_then (on_progress (found h o) ws out) (outcome rest)) e
value_alone false (token.Range l n) h p e ws out rest k = ap (λ o. and_then (on_progress (found h o) ws out) (outcome rest)) e
value_alone false (token.IpNumber n) h p e ws out rest k = ap (λ o. and_then (on_progress (found h o) ws out) (outcome rest)) e
value_alone false (token.Hardware a) h p e ws out rest k = ap (λ o. and_then (on_progress (found h o) ws out) (outcome rest)) e
value_alone false (token.TypeName n) h p e ws out rest k = ap (λ o. and_then (on_progress (found h o) ws out) (outcome rest)) e
value_alone _ _ h p e ws out rest k = absurd (not_some p e)

masked_alone : (only : Bool) (h : Head) (w m : Token) (p : Primitive) → masked_value_of h (ipv4_of w) (ipv4_of m) ≡ Some p → (ws : List Waiting) (out : List Step) (rest : List Token) → outcome (w ∷ token.Mask ∷ m ∷ rest) (expects h only ws out) ≡ outcome rest (put p h ws out)
masked_alone only (head.Net n d) (token.Address (V4 a)) m p e ws out rest = mask_alone n d a 32 (chosen only (head.Net n d) (token.Address (V4 a))) m p e ws out rest
masked_alone only (head.Net n d) (token.Front a bits) m p e ws out rest = mask_alone n d a bits (chosen only (head.Net n d) (token.Front a bits)) m p e ws out rest
masked_alone only _ _ m p e ws out rest = absurd (not_some p e)

-- ---- words that stand alone

-- the state after an expression of a kind
abbrev state_after : Kind → Head → List Waiting → List Step → State
state_after operand h ws out = complete h ws out
state_after (chain o) h ws out = has_read (Some o) h ws out

pub not_operator : (w : Token) (o : Joiner) → after_word w (token.Operator o) ≡ Foreign
not_operator (token.Network n) o = refl
not_operator (token.Transport t) o = refl
not_operator (token.Protocol v k) o = refl
not_operator token.Vlan o = refl
not_operator _ o = refl

not_close : (w : Token) → after_word w token.Close ≡ Foreign
not_close (token.Network n) = refl
not_close (token.Transport t) = refl
not_close (token.Protocol v k) = refl
not_close token.Vlan = refl
not_close _ = refl

foreign_ends : (f w : Token) (a : Primitive) (ws : List Waiting) (out : List Step) (rest : List Token) → alone f ≡ Some a → after_word f w ≡ Foreign → and_then (step_progress (after_word f w) (alone f) w ws out) (outcome rest) ≡ outcome (w ∷ rest) (put a first_head ws out)
foreign_ends f w a ws out rest e g =
    ap (λ x. and_then (step_progress x (alone f) w ws out) (outcome rest)) g
    ∙ ap (λ o. and_then (and_then (completed o ws out) (after w)) (outcome rest)) e
    ∙ ap (λ o. and_then o (outcome rest)) (after_complete first_head ws (out ++ step.Test a ∷ []) w)

-- such a word ends before one that can follow an operand
pub alone_ends : (f : Token) (a : Primitive) (ws : List Waiting) (out : List Step) (rest : List Token) → alone f ≡ Some a → EndsOperand rest → outcome rest (amid (partial.Word f) ws out) ≡ outcome rest (put a first_head ws out)
alone_ends f a ws out [] e k = ap (λ o. and_then (completed o ws out) finish_state) e ∙ finish_complete first_head ws (out ++ step.Test a ∷ [])
alone_ends f a ws out (token.Operator o ∷ rest) e k = foreign_ends f (token.Operator o) a ws out rest e (not_operator f o)
alone_ends f a ws out (token.Close ∷ rest) e k = foreign_ends f token.Close a ws out rest e (not_close f)
alone_ends f a ws out (_ ∷ rest) e k = absurd k

alone_begins : (w : Token) (a : Primitive) → alone w ≡ Some a → (g : Head) (ws : List Waiting) (out : List Step) (rest : List Token) → outcome (w ∷ rest) (expects g false ws out) ≡ outcome rest (amid (partial.Word w) ws out)
alone_begins (token.Network n) a e g ws out rest = refl
alone_begins (token.Transport t) a e g ws out rest = refl
alone_begins (token.Protocol v k) a e g ws out rest = refl
alone_begins (token.EtherType k) a e g ws out rest = refl
alone_begins token.Broadcast a e g ws out rest = refl
alone_begins token.Multicast a e g ws out rest = refl
alone_begins token.Vlan a e g ws out rest = refl
alone_begins token.Fragment a e g ws out rest = refl
alone_begins _ a e g ws out rest = absurd (not_some a e)

-- ---- comparisons

bracket_read : (w : Token) (l : Layer) → layer_of w ≡ Some l → (g : Head) (ws : List Waiting) (out : List Step) (rest : List Token) → outcome (w ∷ token.OpenBracket ∷ rest) (expects g false ws out) ≡ outcome rest (amid (partial.Bracket l) ws out)
bracket_read token.Ether l e g ws out rest = ap (λ x. outcome rest (amid (partial.Bracket x) ws out)) (some_same _ l e)
bracket_read (token.Network n) l e g ws out rest = ap (λ x. outcome rest (amid (partial.Bracket x) ws out)) (some_same _ l e)
bracket_read (token.Transport t) l e g ws out rest = ap (λ x. outcome rest (amid (partial.Bracket x) ws out)) (some_same _ l e)
bracket_read (token.Protocol v k) l e g ws out rest = ap (λ x. outcome rest (amid (partial.Bracket x) ws out)) (some_same _ l e)
bracket_read _ l e g ws out rest = absurd (not_some l e)

place_read : (w : Token) (place : ℕ) (size : Size) → loads_at w ≡ Some (place, size) → (l : Layer) (ws : List Waiting) (out : List Step) (rest : List Token) → outcome (w ∷ token.CloseBracket ∷ rest) (amid (partial.Bracket l) ws out) ≡ outcome rest (amid (partial.Term (quantity.Load l place size) None) ws out)
place_read (token.Number k) place size e l ws out rest = let x = some_same _ (place, size) e in ap (λ (z : ℕ × Size). outcome rest (amid (partial.Term (quantity.Load l z.0 z.1) None) ws out)) x
place_read (token.Place k s) place size e l ws out rest = let x = some_same _ (place, size) e in ap (λ (z : ℕ × Size). outcome rest (amid (partial.Term (quantity.Load l z.0 z.1) None) ws out)) x
place_read _ place size e l ws out rest = absurd (not_some (place, size) e)

bits_read : (u : Use) (words : List Token) (bits : ℕ) → AreBits words bits → (ws : List Waiting) (out : List Step) (rest : List Token) → outcome (words ++ rest) (amid (partial.Opened u) ws out) ≡ outcome rest (amid (partial.Listed u bits) ws out)
bits_read u words bits (single k) ws out rest = refl
bits_read u words bits (with {words = us} {bits = b} x k) ws out rest =
    ap (λ l. outcome l (amid (partial.Opened u) ws out)) (append_assoc us (token.BitOr ∷ token.Number k ∷ []) rest)
    ∙ bits_read u us b x ws out (token.BitOr ∷ token.Number k ∷ rest)

-- the state after a constant
abbrev after_constant : Use → ℕ → List Waiting → List Step → State
after_constant (Masking q) k ws out = amid (partial.Term q (Some k)) ws out
after_constant (Limit q mask r) k ws out = put (says.Compare q mask r k) first_head ws out

constant_read : (u : Use) (words : List Token) (k : ℕ) → IsConstant words k → (ws : List Waiting) (out : List Step) (rest : List Token) → outcome (words ++ rest) (amid (partial.Constant u) ws out) ≡ outcome rest (after_constant u k ws out)
constant_read (Masking q) words k (number n) ws out rest = refl
constant_read (Limit q mask r) words k (number n) ws out rest = refl
constant_read (Masking q) words k (list {words = us} x) ws out rest =
    ap (λ l. outcome l (amid (partial.Opened (Masking q)) ws out)) (append_assoc us (token.Close ∷ []) rest)
    ∙ bits_read (Masking q) us k x ws out (token.Close ∷ rest)
constant_read (Limit q mask r) words k (list {words = us} x) ws out rest =
    ap (λ l. outcome l (amid (partial.Opened (Limit q mask r)) ws out)) (append_assoc us (token.Close ∷ []) rest)
    ∙ bits_read (Limit q mask r) us k x ws out (token.Close ∷ rest)

term_read : (words : List Token) (q : Quantity) (mask : Option ℕ) → IsTerm words q mask → (g : Head) (ws : List Waiting) (out : List Step) (rest : List Token) → outcome (words ++ rest) (expects g false ws out) ≡ outcome rest (amid (partial.Term q mask) ws out)
term_read words q mask len g ws out rest = refl
term_read words q mask (load {word = w} {at = a} {l = l} {place = p} {size = s} e f) g ws out rest =
    bracket_read w l e g ws out (a ∷ token.CloseBracket ∷ rest) ∙ place_read a p s f l ws out rest
term_read words q mask (masked_ {words = us} {bits = vs} {mask = m} x c) g ws out rest =
    ap (λ l. outcome l (expects g false ws out)) (append_assoc us (token.BitAnd ∷ vs) rest)
    ∙ term_read us q None x g ws out (token.BitAnd ∷ (vs ++ rest))
    ∙ constant_read (Masking q) vs m c ws out rest
term_read words q mask (grouped {words = us} x) g ws out rest =
    ap (λ l. outcome l (expects g false (waiting.Open g false ∷ ws) out)) (append_assoc us (token.Close ∷ []) rest)
    ∙ term_read us q mask x g (waiting.Open g false ∷ ws) out (token.Close ∷ rest)

-- ---- expressions

primitive_read : (words : List Token) (p : Primitive) → IsPrimitive words p → (g : Head) (ws : List Waiting) (out : List Step) (rest : List Token) → EndsOperand rest → outcome (words ++ rest) (expects g false ws out) ≡ outcome rest (put p first_head ws out)
primitive_read words p (word {w = w} e) g ws out rest k = alone_begins w p e g ws out rest ∙ alone_ends w p ws out rest e k
primitive_read words p (vlan n h) g ws out rest k =
    ap (λ b. and_then (step_progress (cond b (Done (says.Vlan (Some n)) first_head) Foreign) (Some (says.Vlan None)) (token.Number n) ws out) (outcome rest)) (le-leb n 4095 h)
primitive_read words p (less n) g ws out rest k = refl
primitive_read words p (greater n) g ws out rest k = refl
primitive_read words p ether_broadcast g ws out rest k = refl
primitive_read words p ether_multicast g ws out rest k = refl
primitive_read words p (multicast v) g ws out rest k = refl
primitive_read words p first_fragment g ws out rest k = refl
primitive_read words p checksum_wrong g ws out rest k = refl
primitive_read words p (comparison {words = us} {limit = vs} {q = q} {mask = m} {k = n} x r c) g ws out rest k =
    ap (λ l. outcome l (expects g false ws out)) (append_assoc us (token.Relation r ∷ vs) rest)
    ∙ term_read us q m x g ws out (token.Relation r ∷ (vs ++ rest))
    ∙ constant_read (Limit q m r) vs n c ws out rest

-- where an expression of a kind can begin
abbrev CanBegin : Kind → Bool → List Waiting → Type 0
CanBegin operand only ws = Unit {0}
CanBegin (chain o) only ws = IsBase ws × (is_only ws ≡ only)

at_base : (h : Head) (ws : List Waiting) (out : List Step) → IsBase ws → complete h ws out ≡ has_read None h ws out
at_base h [] out b = refl
at_base h (waiting.Open g only ∷ ws) out b = refl
at_base h (waiting.Not ∷ ws) out b = absurd b
at_base h (waiting.Head ∷ ws) out b = absurd b
at_base h (waiting.Operator o ∷ ws) out b = absurd b

-- the right side of an operator, and what is made of both
right_read : (o : Joiner) (g h : Head) (only : Bool) (words rest : List Token) (ws : List Waiting) (out : List Step) (a b : Expression) → ((ws' : List Waiting) (out' : List Step) → outcome (words ++ rest) (expects g only ws' out') ≡ outcome rest (complete h ws' (out' ++ postfix b))) → outcome (words ++ rest) (expects g only (waiting.Operator o ∷ ws) (out ++ postfix a)) ≡ outcome rest (has_read (Some o) h ws (out ++ postfix (compound o a b)))
right_read o g h only words rest ws out a b ih =
    ih (waiting.Operator o ∷ ws) (out ++ postfix a)
    ∙ ap (λ x. outcome rest (has_read (Some o) h ws x)) (append_assoc (out ++ postfix a) (postfix b) (step.Operator o ∷ []) ∙ append_assoc out (postfix a) (postfix b ++ step.Operator o ∷ []))

first_operator : (o : Joiner) (h : Head) (only : Bool) (us : List Token) (ws : List Waiting) (out : List Step) → is_only ws ≡ only → outcome (token.Operator o ∷ us) (has_read None h ws out) ≡ outcome us (expects h only (waiting.Operator o ∷ ws) out)
first_operator o h only us ws out e = ap (λ b. outcome us (expects h b (waiting.Operator o ∷ ws) out)) e

same_operator : (o : Joiner) (h : Head) (only : Bool) (us : List Token) (ws : List Waiting) (out : List Step) → is_only ws ≡ only → outcome (token.Operator o ∷ us) (has_read (Some o) h ws out) ≡ outcome us (expects h only (waiting.Operator o ∷ ws) out)
same_operator And h only us ws out e = ap (λ b. outcome us (expects h b (waiting.Operator And ∷ ws) out)) e
same_operator Or h only us ws out e = ap (λ b. outcome us (expects h b (waiting.Operator Or ∷ ws) out)) e

can_begin_open : (k : Kind) (g : Head) (only : Bool) (ws : List Waiting) → CanBegin k only (waiting.Open g only ∷ ws)
can_begin_open operand g only ws = tt
can_begin_open (chain o) g only ws = (tt, refl)

closes : (k : Kind) (g h : Head) (only : Bool) (ws : List Waiting) (out : List Step) (rest : List Token) → outcome (token.Close ∷ rest) (state_after k h (waiting.Open g only ∷ ws) out) ≡ outcome rest (complete g ws out)
closes operand g h only ws out rest = refl
closes (chain And) g h only ws out rest = refl
closes (chain Or) g h only ws out rest = refl

pub read_ends : (k : Kind) (only : Bool) (g h : Head) (words : List Token) (e : Expression) → Reads k only g words e h → (ws : List Waiting) (out : List Step) (rest : List Token) → CanBegin k only ws → EndsOperand rest → outcome (words ++ rest) (expects g only ws out) ≡ outcome rest (state_after k h ws (out ++ postfix e))
read_ends k only g h words e (primitive {words = us} {p = p} x) ws out rest b r = primitive_read us p x g ws out rest r
read_ends k only g h words e (headed {h = i} {words = us} {values = vs} x (value {p = p} w v)) ws out rest b r =
    let l = head_read us i x in
    ap (λ z. outcome z (expects g false ws out)) (append_assoc us (w ∷ []) rest) ∙ l.read g ws out (w ∷ rest) ∙ l.takes.value w p v ws out rest r
read_ends k only g h words e (headed {h = i} {words = us} {values = vs} x (masked_value {p = p} w m v)) ws out rest b r =
    let l = head_read us i x in
    ap (λ z. outcome z (expects g false ws out)) (append_assoc us (w ∷ token.Mask ∷ m ∷ []) rest) ∙ l.read g ws out (w ∷ token.Mask ∷ m ∷ rest) ∙ l.takes.masked w m p v ws out rest
read_ends k only g h words e (headed {h = i} {words = us} x (not_ {words = vs} {e = a} y)) ws out rest b r =
    let l = head_read us i x in
    ap (λ z. outcome z (expects g false ws out)) (append_assoc us (token.Not ∷ vs) rest)
    ∙ l.read g ws out (token.Not ∷ (vs ++ rest))
    ∙ l.takes.negation ws out (vs ++ rest)
    ∙ read_ends operand true i h vs a y (waiting.Not ∷ waiting.Head ∷ ws) out rest tt r
    ∙ ap (λ o. outcome rest (complete h ws o)) (append_assoc out (postfix a) (step.Not ∷ []))
read_ends k only g h words e (headed {h = i} {words = us} x (parentheses {kind = j} {after = m} {words = vs} {e = a} y)) ws out rest b r =
    let l = head_read us i x in
    ap (λ z. outcome z (expects g false ws out)) (append_assoc us (token.Open ∷ (vs ++ token.Close ∷ [])) rest)
    ∙ l.read g ws out (token.Open ∷ ((vs ++ token.Close ∷ []) ++ rest))
    ∙ l.takes.group ws out ((vs ++ token.Close ∷ []) ++ rest)
    ∙ ap (λ z. outcome z (expects i true (waiting.Open i true ∷ waiting.Head ∷ ws) out)) (append_assoc vs (token.Close ∷ []) rest)
    ∙ read_ends j true i m vs a y (waiting.Open i true ∷ waiting.Head ∷ ws) out (token.Close ∷ rest) (can_begin_open j i true (waiting.Head ∷ ws)) tt
    ∙ closes j i m true (waiting.Head ∷ ws) (out ++ postfix a) rest
read_ends k only g h words e (value {p = p} w v) ws out rest b r = value_alone only w h p v ws out rest r
read_ends k only g h words e (masked_value {p = p} w m v) ws out rest b r = masked_alone only h w m p v ws out rest
read_ends k only g h words e (not_ {words = us} {e = a} x) ws out rest b r =
    read_ends operand only g h us a x (waiting.Not ∷ ws) out rest tt r
    ∙ ap (λ o. outcome rest (complete h ws o)) (append_assoc out (postfix a) (step.Not ∷ []))
read_ends k only g h words e (parentheses {kind = j} {after = i} {words = us} {e = a} x) ws out rest b r =
    ap (λ l. outcome l (expects g only (waiting.Open g only ∷ ws) out)) (append_assoc us (token.Close ∷ []) rest)
    ∙ read_ends j only g i us a x (waiting.Open g only ∷ ws) out (token.Close ∷ rest) (can_begin_open j g only ws) tt
    ∙ closes j g i only ws (out ++ postfix a) rest
read_ends k only g h words e (first {amid = i} {o = o} {left = l} {right = m} {a = a} {b = c} x y) ws out rest b r =
    ap (λ z. outcome z (expects g only ws out)) (append_assoc l (token.Operator o ∷ m) rest)
    ∙ read_ends operand only g i l a x ws out (token.Operator o ∷ (m ++ rest)) tt tt
    ∙ ap (outcome (token.Operator o ∷ (m ++ rest))) (at_base i ws (out ++ postfix a) b.0)
    ∙ first_operator o i only (m ++ rest) ws (out ++ postfix a) b.1
    ∙ right_read o i h only m rest ws out a c (λ ws' out'. read_ends operand only i h m c y ws' out' rest tt r)
read_ends k only g h words e (more {amid = i} {o = o} {left = l} {right = m} {a = a} {b = c} x y) ws out rest b r =
    ap (λ z. outcome z (expects g only ws out)) (append_assoc l (token.Operator o ∷ m) rest)
    ∙ read_ends (chain o) only g i l a x ws out (token.Operator o ∷ (m ++ rest)) b tt
    ∙ same_operator o i only (m ++ rest) ws (out ++ postfix a) b.1
    ∙ right_read o i h only m rest ws out a c (λ ws' out'. read_ends operand only i h m c y ws' out' rest tt r)

can_begin : (k : Kind) → CanBegin k false []
can_begin operand = tt
can_begin (chain o) = (tt, refl)

finishes : (k : Kind) (h : Head) (out : List Step) → outcome [] (state_after k h [] out) ≡ Some out
finishes operand h out = refl
finishes (chain o) h out = refl

-- an expression is read
pub expression_is_read : (words : List Token) (e : Expression) → IsExpression words e → outcome words start ≡ Some (postfix e)
expression_is_read words e t =
    ap (λ l. outcome l start) (sym (append-nil words))
    ∙ read_ends t.kind false first_head t.last words e t.reads [] [] [] (can_begin t.kind) tt
    ∙ finishes t.kind t.last (postfix e)
