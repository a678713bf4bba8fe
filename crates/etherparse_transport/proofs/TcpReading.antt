-- Some bytes have one answer of a TCP reader.
use Rattle.std.proofs.Common.{ℕ, ◌≡◌, ◌-◌, ◌*◌, List, ◌++◌, length, take, drop, refl, sym, ap}
use Rattle.std.proofs.Common.{◌∙◌, arith, Err, Ok, Result, length-append, take-append-drop}
use Rattle.std.proofs.Common.{take_at}
use Rattle.std.proofs.lemmas.Grind.{common_steps}
use Rattle.std.proofs.lemmas.List.{append_cancel_right}
use Rattle.etherparse.proofs.Fronts.{TellsHeaders, begins_at}
use Rattle.etherparse.specs.Reading.{BeginsWith}
use Rattle.etherparse_transport.proofs.TcpLayout.{cleared_layout, from_bool-lt, same_header}
use Rattle.etherparse_transport.specs.Tcp.{HasTcpFront, ViewsTcp, data_offset_of}
use Rattle.etherparse_transport.specs.TcpHeader.{IsTcpLayout, IsTcpLayoutWith}
use Rattle.etherparse_transport.specs.TcpHeader.{with_reserved_bits_cleared}
use Rattle.etherparse_transport.specs.declared.tcp.TcpError.{TcpError}
use Rattle.etherparse_transport.specs.declared.tcp_header.TcpHeader.{TcpHeader}

-- why a slice is refused
abbrev pub Refuses : List ℕ → TcpError → Type 0
Refuses s e = ViewsTcp s (Err e)

-- a slice is read in one way
pub tells_headers : TellsHeaders IsTcpLayout Refuses
tells_headers = record {
  one_header = same_header;
  one_length = λ s g h x y p q. grind (
    arith,
    common_steps,
    ap data_offset_of p.whole,
    ap data_offset_of q.whole,
  );
  not_refused = λ s h x e b q. grind (
    arith,
    common_steps,
    ap length b.whole,
    ap data_offset_of b.whole,
  );
  one_refusal = λ s e f p q. grind arith;
}

-- the front that is seen, and what follows it
pub front_whole : (s p : List ℕ) → HasTcpFront s p → s ≡ p ++ drop (4 * data_offset_of s) s
front_whole s p v = let k = 4 * data_offset_of s in sym (take-append-drop k s)
    ∙ ap (λ x. x ++ drop k s) (sym v.cut)

-- its header is at the front
pub front_read : (s p : List ℕ) (h : TcpHeader) → HasTcpFront s p → IsTcpLayout h p
    → BeginsWith IsTcpLayout s h (take (length s - length p) (drop (length p) s))
front_read s p h v l = begins_at IsTcpLayout (length p) s p _ h (front_whole s p v) l refl

-- what was read is written with the reserved bits 0
pub cleared_front : (s front rest : List ℕ) (h : TcpHeader) → BeginsWith IsTcpLayout s h rest
    → s ≡ front ++ rest
    → IsTcpLayoutWith h 0 (with_reserved_bits_cleared front)
cleared_front s front rest h b whole =
    cleared_layout h front (rw (append_cancel_right b.front front rest (sym b.whole ∙ whole)) at
    b.layout)

-- bytes in the layout of a header are seen, whatever follows them
pub layout_viewed : (h : TcpHeader) (r : ℕ) (p rest : List ℕ) → IsTcpLayoutWith h r p
    → HasTcpFront (p ++ rest) p
layout_viewed h r p rest l =
    let offset : data_offset_of (p ++ rest) ≡ data_offset_of p =
    grind (arith, common_steps, l.len) in
    let len : length p ≡ 4 * data_offset_of (p ++ rest) =
    omega (
      arith,
      offset,
      l.len,
      l.data_offset_ns,
      l.reserved_fits,
      l.options_len,
      from_bool-lt h.ns,
    ) in
    record {
      says = record {
        enough = omega (arith, length-append p rest, l.len);
        offset = omega (arith, len, l.len);
      };
      enough = omega (arith, length-append p rest, len);
      cut = sym (take_at p rest _ len);
    }

-- a slice is viewed in one way
pub viewed_once : (s : List ℕ) (x y : Result (List ℕ) TcpError) → ViewsTcp s x → ViewsTcp s y → x ≡ y
viewed_once s (Ok p) (Ok q) h k = cc
viewed_once s x y h k = grind arith
