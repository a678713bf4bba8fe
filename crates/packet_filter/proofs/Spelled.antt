-- Words say one thing each.
use Rattle.std.proofs.Common.{◌≡◌, ℕ, List, [], ◌∷◌, ◌++◌, Option, Some, None, refl, sym, ap, ◌∙◌}
use Rattle.std.specs.Prelude.{if◌then◌else◌, MatchOption}
use Rattle.std.proofs.NetLemmas.Theorems.{IsIpText_unique}
use Rattle.packet_filter.specs.Addresses.{IsAddress, SpellsAddress, address_of, addressed, prefixed}
use Rattle.packet_filter.specs.Language.{AreSpelled}
use Rattle.packet_filter.specs.Numbers.{before, beyond, has, number_of, slash}
use Rattle.packet_filter.specs.Text.{Spells, keyword_of}
use Rattle.packet_filter.specs.declared.address.Address.{Address}
use Rattle.packet_filter.specs.declared.token.Token.{Token}

one_address : (word : List ℕ) (a b : Option Address) → IsAddress word a → IsAddress word b → a ≡ b
one_address word None None x y = refl
one_address word (Some a) None x y = absurd (y x.0 x.1)
one_address word None (Some b) x y = absurd (x y.0 y.1)
one_address word (Some a) (Some b) x y = ap Some (x.2 ∙ ap address_of (IsIpText_unique word x.0 y.0 x.1 y.1) ∙ sym y.2)

abbrev spelling : List ℕ → Option Address → Token
spelling word a = if has slash word then prefixed a (number_of (beyond slash word)) else addressed a

one_of : (k : Option Token) (word : List ℕ) (t u : Token) → MatchOption k (SpellsAddress word t) (λ k. t ≡ k) → MatchOption k (SpellsAddress word u) (λ k. u ≡ k) → t ≡ u
one_of (Some k) word t u x y = x ∙ sym y
one_of None word t u x y = x.says ∙ ap (spelling word) (one_address (before slash word) x.address y.address x.is y.is) ∙ sym y.says

pub one_token : (word : List ℕ) (t u : Token) → Spells word t → Spells word u → t ≡ u
one_token word t u x y = one_of (keyword_of word) word t u x y

pub spelled_once : (words : List (List ℕ)) (ts us : List Token) → AreSpelled words ts → AreSpelled words us → ts ≡ us
spelled_once [] [] [] x y = refl
spelled_once (w ∷ ws) (t ∷ ts) (u ∷ us) x y = ap (λ l. l ++ ts) (ap (λ z. z ∷ []) (one_token w t u x.0 y.0)) ∙ ap (λ l. u ∷ l) (spelled_once ws ts us x.1 y.1)
spelled_once [] [] (u ∷ us) x y = absurd y
spelled_once [] (t ∷ ts) us x y = absurd x
spelled_once (w ∷ ws) [] us x y = absurd x
spelled_once (w ∷ ws) (t ∷ ts) [] x y = absurd y

pub spelled_together : (ws vs : List (List ℕ)) (ts us : List Token) → AreSpelled ws ts → AreSpelled vs us → AreSpelled (ws ++ vs) (ts ++ us)
spelled_together [] vs [] us x y = y
spelled_together (w ∷ ws) vs (t ∷ ts) us x y = (x.0, spelled_together ws vs ts us x.1 y)
spelled_together [] vs (t ∷ ts) us x y = absurd x
spelled_together (w ∷ ws) vs [] us x y = absurd x

-- what words that are put together say
pub record Parts (ws vs : List (List ℕ)) (ts : List Token) : Type 0 where
  pub left : List Token
  pub right : List Token
  pub whole : ts ≡ left ++ right
  pub front : AreSpelled ws left
  pub back : AreSpelled vs right

pub spelled_apart : (ws vs : List (List ℕ)) (ts : List Token) → AreSpelled (ws ++ vs) ts → Parts ws vs ts
spelled_apart [] vs ts x = record { left = []; right = ts; whole = refl; front = tt; back = x }
spelled_apart (w ∷ ws) vs [] x = absurd x
spelled_apart (w ∷ ws) vs (t ∷ ts) x =
    let p = spelled_apart ws vs ts x.1 in
    record { left = t ∷ p.left; right = p.right; whole = ap (λ l. t ∷ l) p.whole; front = (x.0, p.front); back = p.back }
