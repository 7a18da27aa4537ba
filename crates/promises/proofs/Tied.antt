-- Tied to the code, proved: the two are the same.
-- Assumes nothing.
use Rattle.promises.specs.Tied.{Tied}

pub tied : Tied
tied =
    record {
      step = λ κs a x. (λ learnt. learnt, λ says. says);
      pass = λ κs a x. (λ learnt. learnt, λ says. says);
      key = λ κs a x. (λ learnt. learnt, λ says. says);
      read = λ κs a x. (λ learnt. learnt, λ says. says);
      write = λ κs a x. (λ learnt. learnt, λ says. says);
      modules_on = λ κs a x. (λ learnt. learnt, λ says. says);
      step_books = λ κs a x. (λ learnt. learnt, λ says. says);
      summary = λ κs a x. (λ learnt. learnt, λ says. says);
      track = λ κs a x. (λ learnt. learnt, λ says. says);
      ems_fresh = λ κs a x. (λ learnt. learnt, λ says. says);
      ems_step = λ κs a x. (λ learnt. learnt, λ says. says);
      ems_pass = λ κs a x. (λ learnt. learnt, λ says. says);
      ems_modules_on = λ κs a x. (λ learnt. learnt, λ says. says);
      ems_step_books = λ κs a x. (λ learnt. learnt, λ says. says);
      ems_summary = λ κs a x. (λ learnt. learnt, λ says. says);
      ems_key = λ κs a x. (λ learnt. learnt, λ says. says);
      ems_track = λ κs a x. (λ learnt. learnt, λ says. says);
    }
