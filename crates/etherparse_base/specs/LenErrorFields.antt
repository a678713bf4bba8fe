-- What a contract sees of a length error: its fields.
use Rattle.std.specs.Prelude.{ℕ}
use Rattle.etherparse_base.specs.declared.err.layer.Layer.{Layer}
use Rattle.etherparse_base.specs.declared.len_source.LenSource.{LenSource}

pub record LenErrorFields : Type 0 where
  pub required_len : ℕ
  pub len : ℕ
  pub len_source : LenSource
  pub layer : Layer
  pub layer_start_offset : ℕ
