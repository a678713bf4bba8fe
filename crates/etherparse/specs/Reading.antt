-- How a header stands at the front of a slice, and how a slice is refused, in any layout.
use Rattle.std.specs.Prelude.{ℕ, ◌≡◌, ◌≢◌, ◌<◌, ◌≤◌, List, ◌++◌, length, Result, Ok, Err}
use Rattle.std.specs.Result.{result_map_both}
use Rattle.std.specs.Borrow.{Bor}
use Rattle.etherparse_base.specs.declared.err.layer.Layer.{Layer}
use Rattle.etherparse_base.specs.declared.err.len_error.LenError.{LenError}
use Rattle.etherparse_base.specs.declared.len_source.LenSource.TheVariants.{Slice}
use Rattle.etherparse.specs.FirstByte.{version_of}

-- the slice is a front that has the layout of the header, and the rest after it
pub record BeginsWith {H : Type 0} (Layout : H → List ℕ → Type 0) (s : List ℕ) (header : H)
    (rest : List ℕ) : Type 0 where
  pub front : List ℕ
  pub whole : s ≡ front ++ rest
  pub layout : Layout header front

-- reading in a layout: the slice begins with this header, and the rest follows; or it is refused
abbrev pub Reads : {H E : Type 0} → (H → List ℕ → Type 0) → (List ℕ → E → Type 0) → List ℕ
    → Result (H × List ℕ) E → Type 0
Reads Layout Refuses s (Ok x) = BeginsWith Layout s x.0 x.1
Reads Layout Refuses s (Err e) = Refuses s e

-- the slice begins with this front, which has the layout of a header
pub record HasFront {H : Type 0} (Layout : H → List ℕ → Type 0) (s front : List ℕ) : Type 0 where
  pub header : H
  pub rest : List ℕ
  pub whole : s ≡ front ++ rest
  pub layout : Layout header front

-- viewing in a layout: this front of the slice is a header; or it is refused
abbrev pub Views : {H E : Type 0} → (H → List ℕ → Type 0) → (List ℕ → E → Type 0) → List ℕ
    → Result (List ℕ) E → Type 0
Views Layout Refuses s (Ok front) = HasFront Layout s front
Views Layout Refuses s (Err e) = Refuses s e

-- the error of a slice that is shorter than the layer needs
abbrev pub too_short_error : Layer → ℕ → ℕ → LenError
too_short_error layer required_len len = record {
  required_len = required_len;
  len = len;
  len_source = Slice;
  layer = layer;
  layer_start_offset = 0;
}

-- the slice is refused since it is shorter than the layer needs
pub record IsTooShort (layer : Layer) (required_len : ℕ) (s : List ℕ) (e : LenError) : Type 0 where
  pub short : length s < required_len
  pub error : e ≡ too_short_error layer required_len (length s)

-- the slice has the least length of a header, and is refused since its version is another one
pub record HasOtherVersion (min_len expected : ℕ) (s : List ℕ) (version : ℕ) : Type 0 where
  pub enough : min_len ≤ length s
  pub other : version_of s ≢ expected
  pub found : version ≡ version_of s

-- what a reader or a walk returns, apart from where the rest lies in memory
abbrev pub found_and_rest : {A E : Type 0} → Result (A × Bor (List ℕ)) E → Result (A × List ℕ) E
found_and_rest r = result_map_both (λ x. (x.0, x.1.now)) (λ e. e) r
