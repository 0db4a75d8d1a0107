mod BlockLaws
mod CountLaws
mod SumLaws
mod WorkLaws
