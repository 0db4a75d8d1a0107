mod CommonLaws
mod StepLaws
