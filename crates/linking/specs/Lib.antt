pub mod OnItsWay
