use Rattle.std.proofs.Common.{◌≡◌, true, false, refl}
use Rattle.c_answers.proofs.filter_reading.read.Goals as goal

pub returns-in-Ok : goal.returns-in-Ok
returns-in-Ok c = record {
  puts = record {
    reads = record {
      read = λ yes. c.in-Ok.ensures.read;
      few = λ yes. c.in-Ok.ensures.few;
      none = λ yes. c.none.ensures.value;
      refused = λ no. let wrong : true ≡ false = no in cc;
      accepted = λ e is few. (refl, c.in-Ok.ensures.accepted e is few);
    };
    stays = λ no. let wrong : true ≡ false = no in cc;
  };
}

pub returns-in-Err : goal.returns-in-Err
returns-in-Err c = record {
  puts = record {
    reads = record {
      read = λ yes. let wrong : false ≡ true = yes in cc;
      few = λ yes. let wrong : false ≡ true = yes in cc;
      none = λ yes. let wrong : false ≡ true = yes in cc;
      refused = λ no. record { error = c.in-Err.error; refused = c.in-Err.ensures.refused; numbers = c.of_error.ensures.value };
      accepted = λ e is few. absurd (c.in-Err.ensures.accepted e is few);
    };
    stays = λ no. refl;
  };
}
