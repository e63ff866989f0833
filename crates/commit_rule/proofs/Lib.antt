pub mod SixCuts
