-- The texts of the errors about TCP options.
use Rattle.std.specs.Prelude.{ℕ, List, ◌++◌, codes, decimal}
use Rattle.etherparse_transport.specs.declared.tcp_option_read_error.TcpOptionReadError
    as refused
use Rattle.etherparse_transport.specs.declared.tcp_option_write_error.TcpOptionWriteError
    as unwritten

-- the text of an error about options that are not written
abbrev pub write_error_text : unwritten.TcpOptionWriteError → List ℕ
write_error_text (unwritten.TheVariants.NotEnoughSpace len) =
    codes "TCP options of " ++ (decimal len ++ codes " bytes do not fit into the 40 of a header.")

-- the text of an error about an option that is not read
abbrev pub read_error_text : refused.TcpOptionReadError → List ℕ
read_error_text (refused.TheVariants.UnexpectedEndOfSlice kind needed len) =
    codes "TCP option of kind " ++ (decimal kind ++ (codes " needs " ++ (decimal needed
    ++ (codes " bytes, but only " ++ (decimal len ++ codes " are left.")))))
read_error_text (refused.TheVariants.UnexpectedSize kind len) =
    codes "TCP option of kind " ++ (decimal kind ++ (codes " has the length " ++ (decimal len
    ++ codes ", which its kind does not allow.")))
read_error_text (refused.TheVariants.UnknownId kind) =
    codes "TCP option of kind " ++ (decimal kind ++ codes " is not known.")
